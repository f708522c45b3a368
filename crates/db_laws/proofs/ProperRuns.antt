-- Runs that ask properly: how they are put together, and that each element of a checked database is one.
use Rattle.std.specs.Prelude.{◌≡◌, ℕ, zero, suc, ◌+◌, ◌-◌, ◌<◌, Bool, true, false, not, ◌||◌, ◌&&◌, if◌then◌else◌, nat_lt, nat_le, ◌==◌, List, [], ◌∷◌, ◌++◌, map, length, replicate, slice_get, is_some, unwrap_or, Option, Some, None, Result, Ok, Err}
use Rattle.std.proofs.Common.{refl, sym, subst, ◌∙◌, arith, append_assoc, append-nil}
use Rattle.std.proofs.lemmas.Bool.Decides.{Decides-eqb, Decides-ltb}
use Rattle.std.proofs.lemmas.List.{length-map, length-replicate}
use Rattle.std.specs.List.{list_any}
use Rattle.db_model.specs.declared.database.ColumnDecl.{ColumnDecl}
use Rattle.db_model.specs.declared.database.Database.{Database}
use Rattle.db_model.specs.declared.database.KeyDecl.{KeyDecl}
use Rattle.db_model.specs.declared.database.TableDecl.{TableDecl}
use Rattle.db_model.specs.declared.element.Element as element
use Rattle.db_model.specs.declared.element.Element.{Element, Row_of-Element, end_of-Element, more_of-Element, Row_of-Case, end_of-Case, more_of-Case, Held-Element-Switch-3, None', Some'}
use Rattle.db_model.specs.declared.element.FieldForm.{FieldForm}
use Rattle.db_model.specs.declared.element.FieldForm.TheVariants as form
use Rattle.db_model.specs.declared.element.LoopControl.{LoopControl}
use Rattle.db_model.specs.declared.element.LoopControl.TheVariants as control
use Rattle.db_model.specs.declared.element.LoopKind.{LoopKind}
use Rattle.db_model.specs.declared.element.LoopKind.TheVariants as loop_kind
use Rattle.db_model.specs.declared.element.UpdateKey.{UpdateKey}
use Rattle.db_model.specs.declared.element.UpdateValue.{UpdateValue}
use Rattle.db_model.specs.declared.entry.NewEntry.{NewEntry}
use Rattle.db_model.specs.declared.entry.Validity.{Validity}
use Rattle.db_model.specs.declared.env.Way.{Way}
use Rattle.db_model.specs.declared.env.Way.TheVariants.{Next, Break, Continue, Chose, Stop}
use Rattle.db_model.specs.declared.expression.Expr.{Expr}
use Rattle.db_model.specs.declared.field_kind.FieldKind.{FieldKind}
use Rattle.db_model.specs.declared.field_kind.FieldKind.TheVariants.{Variable}
use Rattle.db_model.specs.declared.question.Answer.{Answer}
use Rattle.db_model.specs.declared.question.Question.TheVariants.{Add}
use Rattle.db_model.specs.declared.tree.Node.{Node}
use Rattle.db_model.specs.declared.tree.Reason.{Reason}
use Rattle.db_model.specs.declared.tree.Reason.TheVariants as reason
use Rattle.db_model.specs.declared.value.Ty.{Ty}
use Rattle.db_model.specs.declared.value.Ty.TheVariants as ty
use Rattle.db_model.specs.declared.value.Value.{Value}
use Rattle.db_model.specs.Elements.{filled, masks_of, fits_column, row_from, holds, Part, total, each, or_next, choose, control_by, number, field, set_variable, added, update, loop_by, does, means}
use Rattle.db_model.specs.Expression.{Eval, give, result, when, ◌>>=◌, taken_as, val, num, proto, is_so, keys_from, key_sizes}
use Rattle.db_model.specs.Extent.{extent, kind_of}
use Rattle.db_model.specs.Fitting.{keys_fit, masks_fit, is_of_type, row_fits, is_declared, row_declared, add_fits, add_fits_in, question_fits}
use Rattle.db_model.specs.Folds.{CaseOf, BranchOf, fold_row, fold_cases, fold_held, noted_row, noted_cases, noted_held}
use Rattle.db_model.specs.Forms.{is_number, is_text, if_there, is_expression}
use Rattle.db_model.specs.Lines.{Lines, joined, over, over_option, at_line, inside, lines_of}
use Rattle.db_model.specs.Name.{is_name}
use Rattle.db_model.specs.Names.{Text, variable_at, table_at}
use Rattle.db_model.specs.Numbering.{Counts, plus, a_block, counts_of}
use Rattle.db_model.specs.Proper.{Proper, Leaves, TakesFrom, Any, left_in, left_in_frame}
use Rattle.db_model.specs.Questions.{and_then, Gives, ◌then◌}
use Rattle.db_model.specs.Runs.{Went, Run, leave, next, halt, behind, go_on, go, within, or_halt, evaluated, node_at, spend_node, closed, block, add_field, sized_field, place_field, turned, with_turns, turn_at, turn, count, repeat, looped, before_limit, limited, around, under_limit}
use Rattle.db_model.specs.Shape.{ListKind, is_field_list, is_encap_list, Stands, all_stand, cases_stand, branch_stands, stands_step, stands}
use Rattle.db_model.specs.TypeFaults.{masks_differ, other_length, other_columns, misses_times, update_misses, own_47}
use Rattle.db_model.specs.Typing.{has_keys, has_wrong_arity}
use Rattle.db_model.specs.Table.{KeyList}
use Rattle.db_model.proofs.Accepted.{append_front, append_back}
use Rattle.db_laws.proofs.Includes.{line_none}
use Rattle.db_laws.proofs.Fitted.{not_false, and_first, and_second, and_both}
use Rattle.db_laws.proofs.Proper.{proper_then, step_then, OnValue, Evaluates, eval_then, eval_any, asked, AllEvaluate, keys_evaluate, evaluates}

module _ (db : Database) where
  abbrev pub IsProper : Run → Type 0
  IsProper p = TakesFrom db left_in_frame Any p

  pub proper_leave : (w : Way) → IsProper (leave w)
  proper_leave w z = (refl, tt)

  pub proper_halt : (r : Reason) → IsProper (halt r)
  proper_halt r z = (refl, tt)

  proper_behind : (ns : List Node) (p : Run) → IsProper p → IsProper (behind ns p)
  proper_behind ns p h z = proper_then db (Leaves left_in_frame Any) (Leaves left_in_frame Any) (λ r. Gives ((r.0.0, ns ++ r.0.1), r.1)) (λ r m k. k) z.env.questions (p z) (h z)

  proper_go : (w : Way) (ns : List Node) (rest : Run) → IsProper rest → IsProper (go_on w ns rest)
  proper_go Next ns rest h = proper_behind ns rest h
  proper_go Break ns rest h = λ z. (refl, tt)
  proper_go Continue ns rest h = λ z. (refl, tt)
  proper_go (Chose q) ns rest h = λ z. (refl, tt)
  proper_go (Stop r) ns rest h = λ z. (refl, tt)

  run_then : (p : Run) (f : Went → Run) → IsProper p → ((w : Went) → IsProper (f w)) → IsProper (p then f)
  run_then p f h g = step_then db left_in_frame Any Any p f h (λ w k. g w)

  pub proper_evaluated : {A : Type 0} (p : Eval A) (f : A → Run) → Evaluates db {A = A} Any p → ((a : A) → IsProper (f a)) → IsProper (evaluated p f)
  proper_evaluated {A} p f h g = step_then db left_in_frame (OnValue {A = A} Any) Any (within p) (or_halt f) inner on
    where
      inner : TakesFrom db left_in_frame (OnValue {A = A} Any) (within p)
      inner z = proper_then db (Leaves left_in (OnValue {A = A} Any)) (Leaves left_in_frame (OnValue {A = A} Any)) (λ r. Gives (r.0, record z { env = r.1 })) (λ r m k. k) z.env.questions (p z.env) (h z.env)

      on : (r : Result A Reason) → OnValue {A = A} Any r → IsProper (or_halt f r)
      on (Ok a) k = g a
      on (Err e) k = proper_halt e

  proper_spent : (p : Run) → IsProper p → IsProper (spend_node p)
  proper_spent p h z = by z.nodes
    where
      by : (n : ℕ) → Proper db (Leaves left_in_frame Any) z.env.questions (node_at p z n)
      by zero = (refl, tt)
      by (suc n) = h (record z { nodes = n })

  pub proper_block : (n : ℕ) (body : Run) → IsProper body → IsProper (block n body)
  proper_block n body h = proper_spent (λ z. and_then (body z) (λ r. closed n z.env.at r.0 r.1)) (λ z. proper_then db (Leaves left_in_frame Any) (Leaves left_in_frame Any) (λ r. closed n z.env.at r.0 r.1) (λ r m k. k) z.env.questions (body z) (h z))

  proper_place : (kind : FieldKind) (n k : ℕ) → IsProper (place_field kind n k)
  proper_place kind n k z = by (extent kind z.env.packet.bytes z.env.at z.env.limit z.env.origin k) z
    where
      by : (o : Option ℕ) → IsProper (sized_field kind n o)
      by None = proper_halt reason.Short
      by (Some size) = proper_spent (add_field kind n size) (λ z. (refl, tt))

  proper_turned : (w : Way) (ns : List Node) (rest : Run) → IsProper rest → IsProper (turned w ns rest)
  proper_turned Next ns rest h = proper_behind ns rest h
  proper_turned Continue ns rest h = proper_behind ns rest h
  proper_turned Break ns rest h = λ z. (refl, tt)
  proper_turned (Chose q) ns rest h = λ z. (refl, tt)
  proper_turned (Stop r) ns rest h = λ z. (refl, tt)

  proper_turn : (body rest : Run) → IsProper body → IsProper rest → IsProper (turn body rest)
  proper_turn body rest h g z = by z.env.turns
    where
      by : (n : ℕ) → Proper db (Leaves left_in_frame Any) z.env.questions (turn_at body rest z n)
      by zero = (refl, tt)
      by (suc n) = run_then body (λ w. turned w.0 w.1 rest) h (λ w. proper_turned w.0 w.1 rest g) (with_turns n z)

  proper_count : (n : ℕ) (body : Run) → IsProper body → IsProper (count n body)
  proper_count zero body h z = (refl, tt)
  proper_count (suc n) body h z = proper_turn body (count n body) h (proper_count n body h) z

  proper_if : (b : Bool) (p q : Run) → IsProper p → IsProper q → IsProper (if b then p else q)
  proper_if true p q h k = h
  proper_if false p q h k = k

  proper_repeat : (n : ℕ) (test : Eval ℕ) (body : Run) → Evaluates db {A = ℕ} Any test → IsProper body → IsProper (repeat n test body)
  proper_repeat zero test body h g z = proper_evaluated test (λ v. if is_so v then halt reason.Turns else next) h (λ v. proper_if (is_so v) (halt reason.Turns) next (proper_halt reason.Turns) (proper_leave Next)) z
  proper_repeat (suc n) test body h g z = proper_evaluated test (λ v. if is_so v then turn body (repeat n test body) else next) h (λ v. proper_if (is_so v) (turn body (repeat n test body)) next (proper_turn body (repeat n test body) g (proper_repeat n test body h g)) (proper_leave Next)) z

  proper_looped : (test : Eval ℕ) (body : Run) → Evaluates db {A = ℕ} Any test → IsProper body → IsProper (looped test body)
  proper_looped test body h g z = proper_repeat z.env.turns test body h g z

  proper_around : (n : ℕ) (p : Run) → IsProper p → IsProper (around n p)
  proper_around n p h z = proper_then db (Leaves left_in_frame Any) (Leaves left_in_frame Any) (λ r. Gives (r.0, limited z.env.limit r.1)) (λ r m k. k) z.env.questions (p (limited (z.env.at + n) z)) (h (limited (z.env.at + n) z))

  proper_limit : (n : ℕ) (p : Run) → IsProper p → IsProper (under_limit n p)
  proper_limit n p h z = proper_if (nat_le n (z.env.limit - z.env.at)) (around n p) (halt reason.Short) (proper_around n p h) (proper_halt reason.Short) z

  -- ---- updates

  -- a value that is taken as one of a type has it, and a protocol among declared ones is one of them
  pub taken_type : (n : ℕ) (t : Ty) (v : Value) → is_of_type t (taken_as n t v) ≡ true
  taken_type n ty.Num v = refl
  taken_type n ty.Buf v = refl
  taken_type n ty.Proto v = refl

  taken_declared : 0 < length db.protocols → (t : Ty) (v : Value) → is_declared db (taken_as (length db.protocols) t v) ≡ true
  taken_declared h ty.Num v = refl
  taken_declared h ty.Buf v = refl
  taken_declared h ty.Proto v = by (proto v) (nat_lt (proto v) (length db.protocols)) refl
    where
      by : (p : ℕ) (b : Bool) → nat_lt p (length db.protocols) ≡ b → nat_lt (if b then p else 0) (length db.protocols) ≡ true
      by p true e = e
      by p false e = (Decides-ltb 0 (length db.protocols)).1 h

  abbrev Taken : ColumnDecl → Value → Type 0
  Taken c w = ((is_of_type c.ty w && fits_column c.size w) ≡ true) × (is_declared db w ≡ true)

  abbrev RowIs : List ColumnDecl → List Value → Type 0
  RowIs cs ws = (row_fits cs ws ≡ true) × (row_declared db ws ≡ true)

  -- the row that is given has the columns' types and sizes
  row_evaluates : 0 < length db.protocols → (P : List Value → Type 0) (cs : List ColumnDecl) (ps : List (Eval Value)) (before : List Value) → AllEvaluate db ps → ((more : List Value) → RowIs cs more → P (before ++ more)) → Evaluates db P (row_from (length db.protocols) before cs ps)
  row_evaluates o P [] ps before h g = λ z. (refl, subst P (append-nil before) (g [] (refl, refl)))
  row_evaluates o P (c ∷ cs) [] before h g = λ z. (refl, tt)
  row_evaluates o P (c ∷ cs) (p ∷ ps) before h g =
      eval_then db Any P p (λ v. result (when (fits_column c.size (taken v)) reason.DataSize (taken v)) >>= rest) h.0
      (λ v u. eval_then db (Taken c) P (result (when (fits_column c.size (taken v)) reason.DataSize (taken v))) rest (sized v (fits_column c.size (taken v)) refl)
      (λ w f. row_evaluates o P cs ps (before ++ w ∷ []) h.1 (λ more m. subst P (sym (append_assoc before (w ∷ []) more))
      (g (w ∷ more) (and_both (is_of_type c.ty w && fits_column c.size w) (row_fits cs more) f.0 m.0, and_both (is_declared db w) (row_declared db more) f.1 m.1)))))
    where
      taken : Value → Value
      taken v = taken_as (length db.protocols) c.ty v

      rest : Value → Eval (List Value)
      rest w = row_from (length db.protocols) (before ++ w ∷ []) cs ps

      sized : (v : Value) (b : Bool) → fits_column c.size (taken v) ≡ b → Evaluates db (Taken c) (result (when b reason.DataSize (taken v)))
      sized v true e = λ z. (refl, (and_both (is_of_type c.ty (taken v)) (fits_column c.size (taken v)) (taken_type (length db.protocols) c.ty v) e, taken_declared o c.ty v))
      sized v false e = λ z. (refl, tt)

  or_neither : (a b : Bool) → (a || b) ≡ false → (a ≡ false) × (b ≡ false)
  or_neither true b h = (cc)
  or_neither false b h = (refl, h)

  -- masks that have the lengths of their keys, where there is one key of each size
  masks_filled : (sizes : List ℕ) (keys : List UpdateKey) → length sizes ≡ length keys → masks_differ sizes keys ≡ false → keys_fit sizes (filled sizes (map (λ k. k.mask) keys)) ≡ true
  masks_filled [] ks e h = refl
  masks_filled (size ∷ sizes) [] e h = (cc)
  masks_filled (size ∷ sizes) (k ∷ ks) e h =
      let a = or_neither (other_length size k.mask) (masks_differ sizes ks) h in
      and_both (length (unwrap_or k.mask (replicate size 255)) == size) (keys_fit sizes (filled sizes (map (λ x. x.mask) ks))) (by k.mask a.0) (masks_filled sizes ks (omega (arith, e)) a.1)
    where
      by : (m : Option (List ℕ)) → other_length size m ≡ false → (length (unwrap_or m (replicate size 255)) == size) ≡ true
      by None g = (Decides-eqb (length (replicate size 255)) size).1 (length-replicate size 255)
      by (Some m) g = not_false (length m == size) g

  masks_are : (sizes : List ℕ) (keys : List UpdateKey) → length sizes ≡ length keys → masks_differ sizes keys ≡ false → masks_fit sizes (masks_of sizes (map (λ k. k.mask) keys)) ≡ true
  masks_are sizes keys e h = by (list_any is_some (map (λ k. k.mask) keys))
    where
      by : (b : Bool) → masks_fit sizes (if b then Some (filled sizes (map (λ k. k.mask) keys)) else None) ≡ true
      by true = masks_filled sizes keys e h
      by false = refl

  number_or_zero : (o : Option ℕ) → if_there is_number o ≡ true → is_number (unwrap_or o 0) ≡ true
  number_or_zero None h = refl
  number_or_zero (Some n) h = h

  module _ (fields : List Text) where
    keys_all : (keys : List UpdateKey) → AllEvaluate db (map (λ k. val db fields k.value) keys)
    keys_all [] = tt
    keys_all (k ∷ ks) = (evaluates db fields k.value, keys_all ks)

    row_all : (row : List UpdateValue) → AllEvaluate db (map (λ v. val db fields v.value) row)
    row_all [] = tt
    row_all (v ∷ vs) = (evaluates db fields v.value, row_all vs)

    added_proper : 0 < length db.protocols → (d : Option TableDecl) (n : ℕ) (validity : Validity) (keep hit : Option ℕ) (keys : List UpdateKey) (row : List UpdateValue) → slice_get db.tables n ≡ d → update_misses d validity keep hit keys row ≡ false
        → if_there is_number keep ≡ true → if_there is_number hit ≡ true → Evaluates db {A = Answer} Any (added db fields d n validity keep hit keys row)
    unfolding question_fits add_fits
    added_proper o None n validity keep hit keys row e h p q = λ z. (refl, tt)
    added_proper o (Some d) n validity keep hit keys row e h p q =
        let sizes = key_sizes (Some d) in
        let differ = masks_differ sizes keys in
        let times = misses_times validity (is_some keep) (is_some hit) (list_any (λ (k : UpdateKey). is_some k.mask) keys) in
        let a = or_neither (not (has_keys (Some d) (length keys))) (other_columns (Some d) (length row) || (differ || times)) h in
        let b = or_neither (other_columns (Some d) (length row)) (differ || times) a.1 in
        let c = or_neither differ times b.1 in
        let many = (Decides-eqb (length d.keys) (length keys)).0 (not_false (length d.keys == length keys) a.0) in
        let masks = masks_are sizes keys (length-map d.keys (λ (k : KeyDecl). k.size) ∙ many) c.0 in
        eval_then db (λ ks. keys_fit sizes ks ≡ true) Any (keys_from [] sizes (map (λ k. val db fields k.value) keys)) _
        (keys_evaluate db (λ ks. keys_fit sizes ks ≡ true) sizes (map (λ k. val db fields k.value) keys) [] (keys_all keys) (λ more m. m))
        (λ ks k. eval_then db (RowIs d.columns) Any (row_from (length db.protocols) [] d.columns (map (λ v. val db fields v.value) row)) _
        (row_evaluates o (RowIs d.columns) d.columns (map (λ v. val db fields v.value) row) [] (row_all row) (λ more m. m))
        (λ vs v. asked db (Add n (entry ks vs)) (subst (λ x. add_fits_in db x (entry ks vs) ≡ true) (sym e) (fit ks vs k masks v.0 v.1))))
      where
        entry : KeyList → List Value → NewEntry
        entry ks vs = record { keys = ks; masks = masks_of (key_sizes (Some d)) (map (λ k. k.mask) keys); validity = validity; keep = unwrap_or keep 0; hit = unwrap_or hit 0; row = vs }

        fit : (ks : KeyList) (vs : List Value) → keys_fit (key_sizes (Some d)) ks ≡ true → masks_fit (key_sizes (Some d)) (masks_of (key_sizes (Some d)) (map (λ k. k.mask) keys)) ≡ true → row_fits d.columns vs ≡ true → row_declared db vs ≡ true → add_fits_in db (Some d) (entry ks vs) ≡ true
        fit ks vs k m r w =
            let sizes = key_sizes (Some d) in
            let masks = masks_fit sizes (masks_of sizes (map (λ x. x.mask) keys)) in
            let kept = is_number (unwrap_or keep 0) in
            let hits = is_number (unwrap_or hit 0) in
            and_both (add_fits d (entry ks vs)) (row_declared db vs)
            (and_both (keys_fit sizes ks) (masks && (row_fits d.columns vs && (kept && hits))) k
            (and_both masks (row_fits d.columns vs && (kept && hits)) m
            (and_both (row_fits d.columns vs) (kept && hits) r
            (and_both kept hits (number_or_zero keep p) (number_or_zero hit q))))) w

    update_proper : 0 < length db.protocols → (table : Text) (validity : Validity) (keep hit : Option ℕ) (keys : List UpdateKey) (row : List UpdateValue) → update_misses (slice_get db.tables (table_at db table)) validity keep hit keys row ≡ false
        → if_there is_number keep ≡ true → if_there is_number hit ≡ true → IsProper (update db fields table validity keep hit keys row)
    update_proper o table validity keep hit keys row h p q =
        proper_evaluated _ (λ a. next) (added_proper o (slice_get db.tables (table_at db table)) (table_at db table) validity keep hit keys row refl h p q) (λ a. proper_leave Next)

    -- ---- elements

    number_any : (e : Expr) → Evaluates db {A = ℕ} Any (number db fields e)
    number_any e = eval_any db (val db fields e) (λ v. give (num v)) (evaluates db fields e) (λ v z. (refl, tt))

    field_proper : (f : FieldForm) (n : ℕ) → IsProper (field db fields f n)
    field_proper (form.Fixed s) n = proper_place (kind_of (form.Fixed s)) n 0
    field_proper (form.Bit s mask) n = proper_place (kind_of (form.Bit s mask)) n 0
    field_proper (form.Variable e) n = proper_evaluated (number db fields e) (place_field Variable n) (number_any e) (λ k. proper_place Variable n k)
    field_proper (form.TokenEnded token) n = proper_place (kind_of (form.TokenEnded token)) n 0
    field_proper form.Line n = proper_place (kind_of form.Line) n 0
    field_proper (form.Padding align) n = proper_place (kind_of (form.Padding align)) n 0

    loop_proper : (k : LoopKind) (e : Expr) (body : Run) → IsProper body → IsProper (loop_by db fields k e body)
    loop_proper loop_kind.Size e body h = proper_evaluated (number db fields e) (λ n. under_limit n (looped before_limit body)) (number_any e) (λ n. proper_limit n (looped before_limit body) (proper_looped before_limit body (λ z. (refl, tt)) h))
    loop_proper loop_kind.Count e body h = proper_evaluated (number db fields e) (λ n. count n body) (number_any e) (λ n. proper_count n body h)
    loop_proper loop_kind.While e body h = proper_looped (number db fields e) body (number_any e) h

    control_proper : (c : LoopControl) → IsProper (control_by c)
    control_proper control.Break = proper_leave Break
    control_proper control.Continue = proper_leave Continue

  abbrev pub AllParts : List Part → Type 0
  AllParts [] = Unit {0}
  AllParts (x ∷ xs) = ((at : Counts) → IsProper (x.means at)) × AllParts xs

  abbrev AllCases : List (CaseOf Part) → Type 0
  AllCases [] = Unit {0}
  AllCases (c ∷ cs) = AllParts c.body × AllCases cs

  abbrev InBranch : Option (BranchOf Part) → Type 0
  InBranch None = Unit {0}
  InBranch (Some b) = AllParts b.body

  pub each_proper : (xs : List Part) → AllParts xs → (at : Counts) → IsProper (each xs at)
  each_proper [] h at = proper_leave Next
  each_proper (x ∷ xs) h at = run_then (x.means at) (go (each xs (plus at x.note))) (h.0 at) (λ w. proper_go w.0 w.1 (each xs (plus at x.note)) (each_proper xs h.1 (plus at x.note)))

  or_next_proper : (b : Option (BranchOf Part)) → InBranch b → (at : Counts) → IsProper (or_next b at)
  or_next_proper None h at = proper_leave Next
  or_next_proper (Some b) h at = each_proper b.body h at

  choose_proper : (v : ℕ) (cs : List (CaseOf Part)) (other : Option (BranchOf Part)) → AllCases cs → InBranch other → (at : Counts) → IsProper (choose v cs other at)
  choose_proper v [] other h k at = or_next_proper other k at
  choose_proper v (c ∷ cs) other h k at = proper_if (holds c v) (each c.body at) (choose v cs other (plus at (total c.body))) (each_proper c.body h.0 at) (choose_proper v cs other h.1 k (plus at (total c.body)))

  -- the lines of fault 47 in parts
  abbrev lines_row : {m : _} → Row_of-Element m → Lines
  lines_row xs = joined (fold_row Lines (λ x. own_47 db x ++ inside x) xs)

  abbrev lines_cases : {m : _} → Row_of-Case m → Lines
  lines_cases cs = over (λ (c : CaseOf Lines). joined c.body) (fold_cases Lines (λ x. own_47 db x ++ inside x) cs)

  abbrev lines_held : Held-Element-Switch-3 → Lines
  lines_held x = over_option (λ (b : BranchOf Lines). joined b.body) (fold_held Lines (λ x. own_47 db x ++ inside x) x)

  module _ (fields : List Text) (include : Text → Run) (inc : (name : Text) → IsProper (include name)) (o : 0 < length db.protocols) where
    mutual
      unfolding means

      pub element_proper : (x : Element) (kind : ListKind) (looped : Bool) → lines_of (own_47 db) x ≡ [] → stands x kind looped ≡ true → (at : Counts) → IsProper (means db fields include x at)
      element_proper (element.Field line name f longname show) kind looped h k at = field_proper fields f at.fields
      element_proper (element.Block' line name longname s body) kind looped h k at =
          proper_block at.blocks _ (each_proper _ (row_proper body kind looped h (and_second (if_there is_text longname) _ (and_second (is_name name) _ (and_second (is_field_list kind) _ k)))) (plus at a_block))
      element_proper (element.IncludeBlock line name) kind looped h k at = inc name
      element_proper (element.Loop' line lk e s body) kind looped h k at =
          loop_proper fields lk e _ (each_proper _ (row_proper body kind true (append_back (at_line line (has_wrong_arity db e)) _ h) (and_second (is_expression e) _ (and_second (is_field_list kind) _ k))) at)
      element_proper (element.LoopCtrl line c) kind looped h k at = control_proper fields c
      element_proper (element.Switch' line e s cases other) kind looped h k at =
          let l = append_back (at_line line (has_wrong_arity db e)) _ h in
          let m = and_second (is_expression e) _ k in
          proper_evaluated (number db fields e) _ (number_any fields e) (λ v. choose_proper v _ _
          (cases_proper cases kind looped (append_front (lines_cases cases) (lines_held other) l) (and_first (cases_stand (fold_cases Stands stands_step cases) kind looped) (branch_stands (fold_held Stands stands_step other) kind looped) m))
          (held_proper other kind looped (append_back (lines_cases cases) (lines_held other) l) (and_second (cases_stand (fold_cases Stands stands_step cases) kind looped) (branch_stands (fold_held Stands stands_step other) kind looped) m)) at)
      element_proper (element.If' line e true_line s body other) kind looped h k at =
          let l = append_back (at_line line (has_wrong_arity db e)) _ h in
          let m = and_second (is_expression e) _ k in
          proper_evaluated (number db fields e) _ (number_any fields e) (λ v. proper_if (is_so v) _ _
          (each_proper _ (row_proper body kind looped (append_front (lines_row body) (lines_held other) l) (and_first (all_stand (fold_row Stands stands_step body) kind looped) (branch_stands (fold_held Stands stands_step other) kind looped) m)) at)
          (or_next_proper _ (held_proper other kind looped (append_back (lines_row body) (lines_held other) l) (and_second (all_stand (fold_row Stands stands_step body) kind looped) (branch_stands (fold_held Stands stands_step other) kind looped) m)) _))
      element_proper (element.Assign line name e) kind looped h k at = proper_evaluated (val db fields e) (set_variable db fields (variable_at db name)) (evaluates db fields e) (λ v z. (refl, tt))
      element_proper (element.Update line table validity keep hit keys row) kind looped h k at =
          let m = and_first (if_there is_number keep && if_there is_number hit) _ (and_second (is_name table) _ (and_second (not (is_encap_list kind)) _ k)) in
          let wrong = at_line line (update_misses (slice_get db.tables (table_at db table)) validity keep hit keys row) in
          let others = over (λ (w : UpdateKey). at_line w.line (has_wrong_arity db w.value)) keys ++ over (λ (v : UpdateValue). at_line v.line (has_wrong_arity db v.value)) row in
          update_proper fields o table validity keep hit keys row (line_none line _ (append_front wrong others (append_front (wrong ++ others) [] h)))
          (and_first (if_there is_number keep) (if_there is_number hit) m) (and_second (if_there is_number keep) (if_there is_number hit) m)
      element_proper (element.NextProto line e) kind looped h k at = proper_evaluated (val db fields e) (λ v. leave (Chose (proto v))) (evaluates db fields e) (λ v. proper_leave (Chose (proto v)))

      row_proper : {m : _} (xs : Row_of-Element m) (kind : ListKind) (looped : Bool) → lines_row xs ≡ [] → all_stand (fold_row Stands stands_step xs) kind looped ≡ true → AllParts (noted_row Counts counts_of (Counts → Run) (does db fields include) xs)
      row_proper end_of-Element kind looped h k = tt
      row_proper (more_of-Element x rest) kind looped h k = (
        element_proper x kind looped (append_front (lines_of (own_47 db) x) (lines_row rest) h) (and_first (stands x kind looped) (all_stand (fold_row Stands stands_step rest) kind looped) k),
        row_proper rest kind looped (append_back (lines_of (own_47 db) x) (lines_row rest) h) (and_second (stands x kind looped) (all_stand (fold_row Stands stands_step rest) kind looped) k),
      )

      cases_proper : {m : _} (xs : Row_of-Case m) (kind : ListKind) (looped : Bool) → lines_cases xs ≡ [] → cases_stand (fold_cases Stands stands_step xs) kind looped ≡ true → AllCases (noted_cases Counts counts_of (Counts → Run) (does db fields include) xs)
      cases_proper end_of-Case kind looped h k = tt
      cases_proper (more_of-Case line value maxvalue s body rest) kind looped h k = (
        row_proper body kind looped (append_front (lines_row body) (lines_cases rest) h) (and_first (all_stand (fold_row Stands stands_step body) kind looped) (cases_stand (fold_cases Stands stands_step rest) kind looped) k),
        cases_proper rest kind looped (append_back (lines_row body) (lines_cases rest) h) (and_second (all_stand (fold_row Stands stands_step body) kind looped) (cases_stand (fold_cases Stands stands_step rest) kind looped) k),
      )

      held_proper : (x : Held-Element-Switch-3) (kind : ListKind) (looped : Bool) → lines_held x ≡ [] → branch_stands (fold_held Stands stands_step x) kind looped ≡ true → InBranch (noted_held Counts counts_of (Counts → Run) (does db fields include) x)
      held_proper None' kind looped h k = tt
      held_proper (Some' line s body) kind looped h k = row_proper body kind looped h k
