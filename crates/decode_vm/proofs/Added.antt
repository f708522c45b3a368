-- How an update asks, where its table is declared and where it isn't.
use Rattle.std.specs.Prelude.{◌≡◌, ℕ, List, [], map, length, unwrap_or, Option, Some, None, Result, Ok, Err}
use Rattle.std.proofs.Common.{refl, sym, ap, subst, ◌∙◌}
use Rattle.db_model.specs.declared.database.Database.{Database}
use Rattle.db_model.specs.declared.database.TableDecl.{TableDecl}
use Rattle.db_model.specs.declared.entry.NewEntry.{NewEntry}
use Rattle.db_model.specs.declared.env.Env.{Env}
use Rattle.db_model.specs.declared.question.Answer.{Answer}
use Rattle.db_model.specs.declared.question.Answer.TheVariants.{Done}
use Rattle.db_model.specs.declared.question.Question.TheVariants.{Add}
use Rattle.db_model.specs.declared.value.Value.{Value}
use Rattle.db_model.specs.Elements.{masks_of, row_from}
use Rattle.pdl_code.specs.declared.code.UpdateCode.{UpdateCode}
use Rattle.pdl_code.specs.Does.{added}
use Rattle.db_model.specs.Expression.{Eval, ◌>>=◌, asks, keys_from}
use Rattle.expr_code.specs.Meaning.{code_val}
use Rattle.db_model.specs.Over.{Point}
use Rattle.db_model.specs.Table.{KeyList}
use Rattle.expr_eval.specs.declared.end.EvalEnd.{EvalEnd}
use Rattle.expr_eval.specs.declared.end.EvalEnd.TheVariants as end
use Rattle.expr_eval.specs.Evaluates.{Evaluates, itself}
use Rattle.expr_eval.proofs.Steps.{gives, refused, then_ok, then_err}
use Rattle.decode_vm.specs.Left.{AllFit}
use Rattle.decode_vm.proofs.Fits.{fit_value}

module _ (db : Database) (u : UpdateCode) where
  abbrev pub added_to : Option TableDecl → Eval Answer
  added_to x = added db x u

  pub not_declared : (x : Option TableDecl) (m : Point Env) → x ≡ None → Evaluates db (added_to x) itself m (Ok Done) m
  not_declared x m e = subst (λ y. Evaluates db (added_to y) itself m (Ok Done) m) (sym e) (gives db (Ok Done) refl)

  module _ (d : TableDecl) where
    abbrev pub keys_part : Eval KeyList
    keys_part = keys_from [] (map (λ k. k.size) d.keys) (map (λ k. code_val db k.value) u.keys)

    abbrev pub row_part : Eval (List Value)
    row_part = row_from (length db.protocols) [] d.columns (map (code_val db) u.row)

    abbrev pub entry : KeyList → Option KeyList → ℕ → ℕ → List Value → NewEntry
    entry ks ms kept renewed vs = record { keys = ks; masks = ms; validity = u.validity; keep = kept; hit = renewed; row = vs }

    abbrev pub masks_here : Option KeyList
    masks_here = masks_of (map (λ k. k.size) d.keys) (map (λ k. k.mask) u.keys)

    abbrev after_row : KeyList → List Value → Eval Answer
    after_row ks vs = asks (Add u.table (entry ks masks_here (unwrap_or u.keep 0) (unwrap_or u.hit 0) vs))

    abbrev after_keys : KeyList → Eval Answer
    after_keys ks = row_part >>= after_row ks

    same_entry : (ks : KeyList) (vs : List Value) (ms : Option KeyList) (kept renewed : ℕ) → ms ≡ masks_here → kept ≡ unwrap_or u.keep 0 → renewed ≡ unwrap_or u.hit 0 → entry ks ms kept renewed vs ≡ entry ks masks_here (unwrap_or u.keep 0) (unwrap_or u.hit 0) vs
    same_entry ks vs ms kept renewed e f g =
        ap (λ (x : Option KeyList). entry ks x kept renewed vs) e ∙ (ap (λ (x : ℕ). entry ks masks_here x renewed vs) f ∙ ap (λ (x : ℕ). entry ks masks_here (unwrap_or u.keep 0) x vs) g)

    module _ (x : Option TableDecl) (e : x ≡ Some d) (m : Point Env) where
      by_declared : (o : Result Answer EvalEnd) (n : Point Env) → Evaluates db (keys_part >>= after_keys) itself m o n → Evaluates db (added_to x) itself m o n
      by_declared o n h = subst (λ y. Evaluates db (added_to y) itself m o n) (sym e) h

      pub no_keys : (f : EvalEnd) (n : Point Env) → Evaluates db keys_part itself m (Err f) n → Evaluates db (added_to x) itself m (Err f) n
      no_keys f n h = by_declared (Err f) n (then_err db _ f h)

      module _ (ks : KeyList) (n : Point Env) (h : Evaluates db keys_part itself m (Ok ks) n) where
        pub no_row : (f : EvalEnd) (k : Point Env) → Evaluates db row_part itself n (Err f) k → Evaluates db (added_to x) itself m (Err f) k
        no_row f k i = by_declared (Err f) k (then_ok db after_keys {h = itself} ks h (then_err db (after_row ks) f i))

        module _ (vs : List Value) (k : Point Env) (i : Evaluates db row_part itself n (Ok vs) k) where
          pub no_masks : Evaluates db (added_to x) itself m (Err end.NoMemory) k
          no_masks = by_declared (Err end.NoMemory) k (then_ok db after_keys {h = itself} ks h (then_ok db (after_row ks) vs i (refused db (after_row ks vs))))

          module _ (ms : Option KeyList) (kept renewed : ℕ) (f : ms ≡ masks_here) (g : kept ≡ unwrap_or u.keep 0) (j : renewed ≡ unwrap_or u.hit 0) where
            asks_same : (o : Result Answer EvalEnd) (l : Point Env) → Evaluates db (asks (Add u.table (entry ks ms kept renewed vs))) itself k o l → Evaluates db (added_to x) itself m o l
            asks_same o l a =
                by_declared o l (then_ok db after_keys {h = itself} ks h (then_ok db (after_row ks) vs i
                (subst (λ (y : NewEntry). Evaluates db (asks (Add u.table y)) itself k o l) (same_entry ks vs ms kept renewed f g j) a)))

            fit_same : AllFit db (added_to x m.held) → AllFit db (asks (Add u.table (entry ks ms kept renewed vs)) k.held)
            fit_same a =
                let b = subst (λ (y : Option TableDecl). AllFit db (added_to y m.held)) e a in
                subst (λ (y : NewEntry). AllFit db (asks (Add u.table y) k.held)) (sym (same_entry ks vs ms kept renewed f g j))
                (fit_value db row_part (after_row ks) n k vs (fit_value db keys_part after_keys m n ks b h) i)

            module _ (db' : Database) (same : db' ≡ db) (ks' : KeyList) (same_keys : ks' ≡ ks) (vs' : List Value) (same_row : vs' ≡ vs) where
              pub asked : (o : Result Answer EvalEnd) (l : Point Env) → Evaluates db' (asks (Add u.table (entry ks' ms kept renewed vs'))) itself k o l → Evaluates db (added_to x) itself m o l
              asked o l a =
                  asks_same o l (subst (λ (w : List Value). Evaluates db (asks (Add u.table (entry ks ms kept renewed w))) itself k o l) same_row
                  (subst (λ (w : KeyList). Evaluates db (asks (Add u.table (entry w ms kept renewed vs'))) itself k o l) same_keys
                  (subst (λ (w : Database). Evaluates w (asks (Add u.table (entry ks' ms kept renewed vs'))) itself k o l) same a)))

              pub fit_ask : AllFit db (added_to x m.held) → AllFit db' (asks (Add u.table (entry ks' ms kept renewed vs')) k.held)
              fit_ask a =
                  subst (λ (w : Database). AllFit w (asks (Add u.table (entry ks' ms kept renewed vs')) k.held)) (sym same)
                  (subst (λ (w : KeyList). AllFit db (asks (Add u.table (entry w ms kept renewed vs')) k.held)) (sym same_keys)
                  (subst (λ (w : List Value). AllFit db (asks (Add u.table (entry ks ms kept renewed w)) k.held)) (sym same_row) (fit_same a)))
