-- What the codes of expressions give is what the expressions give.
use Rattle.std.specs.Prelude.{◌≡◌, ℕ, List, [], ◌∷◌, length, map, unwrap_or, Option, Some, None}
use Rattle.std.proofs.Common.{refl, ap, ◌∙◌}
use Rattle.db_model.specs.declared.database.Database.{Database}
use Rattle.db_model.specs.declared.database.TableDecl.{TableDecl}
use Rattle.db_model.specs.declared.element.LoopKind.{LoopKind}
use Rattle.db_model.specs.declared.element.LoopKind.TheVariants as kind
use Rattle.db_model.specs.declared.element.UpdateKey.{UpdateKey}
use Rattle.db_model.specs.declared.element.UpdateValue.{UpdateValue}
use Rattle.db_model.specs.declared.entry.Validity.{Validity}
use Rattle.db_model.specs.declared.expression.Expr.{Expr}
use Rattle.db_model.specs.declared.question.Question.TheVariants.{Add}
use Rattle.db_model.specs.Elements
use Rattle.db_model.specs.Elements.{masks_of, row_from}
use Rattle.db_model.specs.Expression.{val, give, ◌>>=◌, num, keys_from, key_sizes, asks}
use Rattle.db_model.specs.Names.{Text, table_at}
use Rattle.db_model.specs.Numbering.{names_of_protocol}
use Rattle.db_model.specs.Runs.{Run, evaluated, count, looped, before_limit, under_limit}
use Rattle.expr_code.specs.Meaning.{code_val}
use Rattle.expr_code.proofs.Means.{code_means}
use Rattle.pdl_code.specs.Coding.{resolved, key_code, update_code}
use Rattle.pdl_code.specs.Does.{number, added, loop_by}

module _ (db : Database) (q : ℕ) (fields : List Text) (named : names_of_protocol db q ≡ fields) where
  pub same_value : (e : Expr) → code_val db (resolved db q e) ≡ val db fields e
  same_value e = code_means db (names_of_protocol db q) e ∙ ap (λ f. val db f e) named

  pub same_number : (e : Expr) → number db (resolved db q e) ≡ Elements.number db fields e
  same_number e = ap (λ p. p >>= (λ v. give (num v))) (same_value e)

  pub same_loop : (k : LoopKind) (e : Expr) (body : Run) → loop_by db k (resolved db q e) body ≡ Elements.loop_by db fields k e body
  same_loop kind.Size e body = ap (λ p. evaluated p (λ n. under_limit n (looped before_limit body))) (same_number e)
  same_loop kind.Count e body = ap (λ p. evaluated p (λ n. count n body)) (same_number e)
  same_loop kind.While e body = ap (λ p. looped p body) (same_number e)

  same_keys : (ks : List UpdateKey) → map (λ k. code_val db k.value) (map (key_code db q) ks) ≡ map (λ k. val db fields k.value) ks
  same_keys [] = refl
  same_keys (k ∷ ks) = λ i. same_value k.value i ∷ same_keys ks i

  same_masks : (ks : List UpdateKey) → map (λ k. k.mask) (map (key_code db q) ks) ≡ map (λ k. k.mask) ks
  same_masks [] = refl
  same_masks (k ∷ ks) = ap (λ l. k.mask ∷ l) (same_masks ks)

  same_row : (vs : List UpdateValue) → map (code_val db) (map (λ v. resolved db q v.value) vs) ≡ map (λ v. val db fields v.value) vs
  same_row [] = refl
  same_row (v ∷ vs) = λ i. same_value v.value i ∷ same_row vs i

  pub same_added : (o : Option TableDecl) (table : Text) (validity : Validity) (keep hit : Option ℕ) (keys : List UpdateKey) (row : List UpdateValue) → added db o (update_code db q table validity keep hit keys row) ≡ Elements.added db fields o (table_at db table) validity keep hit keys row
  same_added None table validity keep hit keys row = refl
  same_added (Some d) table validity keep hit keys row = λ i.
      keys_from [] (key_sizes (Some d)) (same_keys keys i) >>= (λ ks.
      row_from (length db.protocols) [] d.columns (same_row row i) >>= (λ vs.
      asks (Add (table_at db table) (record { keys = ks; masks = masks_of (key_sizes (Some d)) (same_masks keys i); validity = validity; keep = unwrap_or keep 0; hit = unwrap_or hit 0; row = vs }))))
