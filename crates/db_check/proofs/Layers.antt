-- The lines of an element are its own and those of the elements in it.
use Rattle.std.specs.Prelude.{◌≡◌, ℕ, List, [], ◌∷◌, ◌++◌, map, Option, Some, None}
use Rattle.std.specs.Option.{option_map}
use Rattle.std.proofs.Common.{refl, ap, ◌∙◌}
use Rattle.db_cause.specs.declared.cause.Cause.{Cause}
use Rattle.db_model.specs.declared.element.Branch.{Branch}
use Rattle.db_model.specs.declared.element.Case.{Case}
use Rattle.db_model.specs.declared.element.Element as element
use Rattle.db_model.specs.declared.element.Element.{Element}
use Rattle.db_model.specs.declared.element.LoopKind.{LoopKind}
use Rattle.db_model.specs.declared.expression.Expr.{Expr}
use Rattle.db_model.specs.declared.database.Protocol.{Protocol}
use Rattle.db_model.specs.Chain.{before_in, after_in}
use Rattle.db_model.specs.Folds.{CaseOf, BranchOf, ElementOf}
use Rattle.db_model.specs.Lines.{Lines, joined, over, over_option, inside, lines_of, lines_in}
use Rattle.db_model.specs.Names.{Text}
use Rattle.db_model.specs.Numbering.{elements_in, fields_in, blocks_in}
use Rattle.db_model.proofs.Layers.{fold_list, fold_case, fold_branch, fold_case_list, fold_other}
use Rattle.db_check.specs.Layer.{own_at, inside_at, lines_of_cases, lines_of_other, lines_of_blocks}
use Rattle.db_check.proofs.FirstFault.{over_append, first_append}
use Rattle.db_check.specs.First.{first}
use Rattle.db_model.specs.LeastFault.{earlier}

module _ (own : ElementOf Lines → Lines) where
  abbrev step : ElementOf Lines → Lines
  step x = own x ++ inside x

  pub one_layer : (x : Element) → lines_of own x ≡ own_at own x ++ inside_at own x
  one_layer (element.Field line name form longname show) = refl
  one_layer (element.Block' line name longname s body) = refl
  one_layer (element.IncludeBlock line name) = refl
  one_layer (element.Loop' line kind e s body) = refl
  one_layer (element.LoopCtrl line kind) = refl
  one_layer (element.Switch' line e s cases other) = refl
  one_layer (element.If' line e true_line s body other) = refl
  one_layer (element.Assign line name value) = refl
  one_layer (element.Update line table validity keep hit keys row) = refl
  one_layer (element.NextProto line proto) = refl

  pub inside_block : (line : ℕ) (name : Text) (longname : Option (List ℕ)) (body : List Element) → inside_at own (element.Block line name longname body) ≡ over (lines_of own) body
  inside_block line name longname body = ap joined (fold_list Lines step body)

  pub inside_loop : (line : ℕ) (kind : LoopKind) (e : Expr) (body : List Element) → inside_at own (element.Loop line kind e body) ≡ over (lines_of own) body
  inside_loop line kind e body = ap joined (fold_list Lines step body)

  cases_are : (cs : List Case) → over (λ (c : CaseOf Lines). joined c.body) (map (fold_case Lines step) cs) ≡ lines_of_cases own cs
  cases_are [] = refl
  cases_are (c ∷ cs) = ap (λ l. over (lines_of own) c.body ++ l) (cases_are cs)

  other_is : (b : Option Branch) → over_option (λ (b : BranchOf Lines). joined b.body) (option_map (fold_branch Lines step) b) ≡ lines_of_other own b
  other_is None = refl
  other_is (Some b) = refl

  pub inside_switch : (line : ℕ) (e : Expr) (cs : List Case) (other : Option Branch) → inside_at own (element.Switch line e cs other) ≡ lines_of_cases own cs ++ lines_of_other own other
  inside_switch line e cs other = (λ i. over (λ (c : CaseOf Lines). joined c.body) (fold_case_list Lines step cs i) ++ over_option (λ (b : BranchOf Lines). joined b.body) (fold_other Lines step other i)) ∙ (λ i. cases_are cs i ++ other_is other i)

  pub inside_if : (line : ℕ) (e : Expr) (true_line : ℕ) (so : List Element) (other : Option Branch) → inside_at own (element.If line e true_line so other) ≡ over (lines_of own) so ++ lines_of_other own other
  inside_if line e true_line so other = (λ i. joined (fold_list Lines step so i) ++ over_option (λ (b : BranchOf Lines). joined b.body) (fold_other Lines step other i)) ∙ ap (λ l. over (lines_of own) so ++ l) (other_is other)

  pub parts_are : (p : Protocol) → lines_in own p ≡ (over (lines_of own) (before_in p.execute_code) ++ (over (lines_of own) (fields_in p.format) ++ (over (lines_of own) (after_in p.execute_code) ++ over (lines_of own) (elements_in p.encapsulation)))) ++ lines_of_blocks own (blocks_in p.format)
  parts_are p = ap (λ l. l ++ lines_of_blocks own (blocks_in p.format))
      (over_append (lines_of own) (before_in p.execute_code) (fields_in p.format ++ (after_in p.execute_code ++ elements_in p.encapsulation))
      ∙ ap (λ l. over (lines_of own) (before_in p.execute_code) ++ l)
      (over_append (lines_of own) (fields_in p.format) (after_in p.execute_code ++ elements_in p.encapsulation)
      ∙ ap (λ l. over (lines_of own) (fields_in p.format) ++ l) (over_append (lines_of own) (after_in p.execute_code) (elements_in p.encapsulation))))

  pub parts_first : (k : Cause) (p : Protocol) → first k (lines_in own p) ≡ earlier (earlier (first k (over (lines_of own) (before_in p.execute_code))) (earlier (first k (over (lines_of own) (fields_in p.format))) (earlier (first k (over (lines_of own) (after_in p.execute_code))) (first k (over (lines_of own) (elements_in p.encapsulation)))))) (first k (lines_of_blocks own (blocks_in p.format)))
  parts_first k p =
      let b : Lines = over (lines_of own) (before_in p.execute_code) in
      let f : Lines = over (lines_of own) (fields_in p.format) in
      let a : Lines = over (lines_of own) (after_in p.execute_code) in
      let n : Lines = over (lines_of own) (elements_in p.encapsulation) in
      ap (first k) (parts_are p)
      ∙ (first_append k (b ++ (f ++ (a ++ n))) (lines_of_blocks own (blocks_in p.format))
      ∙ ap (λ x. earlier x (first k (lines_of_blocks own (blocks_in p.format)))) (first_append k b (f ++ (a ++ n)) ∙ ap (earlier (first k b)) (first_append k f (a ++ n) ∙ ap (earlier (first k f)) (first_append k a n))))
