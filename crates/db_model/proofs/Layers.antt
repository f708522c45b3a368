-- A fold on one layer: what a step makes of an expression or an element, from what it makes of the parts.
use Rattle.std.specs.Prelude.{◌≡◌, ℕ, Bool, List, [], ◌∷◌, map, Option, Some, None}
use Rattle.std.proofs.Common.{refl, ap}
use Rattle.std.specs.Option.{option_map}
use denote.Hole.Carrier.{hidden}
use Rattle.db_model.specs.declared.element.Element as element
use Rattle.db_model.specs.declared.element.Branch.{Branch}
use Rattle.db_model.specs.declared.element.Case.{Case}
use Rattle.db_model.specs.declared.element.Element.{Element}
use Rattle.db_model.specs.declared.element.Element.TheBlock.{hidden-the_row-Element-0, hidden-the_row-Case-1, back-Element-Switch-3}
use Rattle.db_model.specs.declared.element.Element.TheOpen as in_element
use Rattle.db_model.specs.declared.element.LoopKind.{LoopKind}
use Rattle.db_model.specs.declared.expression.Expr as expr
use Rattle.db_model.specs.declared.expression.Expr.{Expr, Expr-F}
use Rattle.db_model.specs.declared.expression.Expr.TheBlock.{hidden-the_row-Expr-0, hidden-the_row-Expr-1}
use Rattle.db_model.specs.declared.expression.Expr.TheOpen as in_expr
use Rattle.db_model.specs.declared.expression.Operator.{Operator}
use Rattle.db_model.specs.Folds.{fold_expr, fold_exprs, CaseOf, BranchOf, ElementOf, Noted, fold_element, fold_row, fold_cases, fold_held, noted_element, noted_row, noted_cases, noted_held}
use Rattle.db_model.specs.Names.{Text}

module _ (A : Type 0) (step : Expr-F A → A) where
  pub fold_keys : (es : List Expr) → fold_exprs A step (hidden-the_row-Expr-1 es) ≡ map (fold_expr A step) es
  unfolding hidden-the_row-Expr-1 hidden
  fold_keys [] = refl
  fold_keys (e ∷ es) = ap (λ l. fold_expr A step e ∷ l) (fold_keys es)

  pub fold_number : (n : ℕ) → fold_expr A step (expr.Number n) ≡ step (in_expr.Number n)
  unfolding hidden-the_row-Expr-0 hidden-the_row-Expr-1 hidden
  fold_number n = refl

  pub fold_text : (b : List ℕ) → fold_expr A step (expr.Text b) ≡ step (in_expr.Text b)
  unfolding hidden-the_row-Expr-0 hidden-the_row-Expr-1 hidden
  fold_text b = refl

  pub fold_protocol : (name : Text) → fold_expr A step (expr.Protocol name) ≡ step (in_expr.Protocol name)
  unfolding hidden-the_row-Expr-0 hidden-the_row-Expr-1 hidden
  fold_protocol name = refl

  pub fold_field : (name : Text) → fold_expr A step (expr.Field name) ≡ step (in_expr.Field name)
  unfolding hidden-the_row-Expr-0 hidden-the_row-Expr-1 hidden
  fold_field name = refl

  pub fold_variable : (name : Text) → fold_expr A step (expr.Variable name) ≡ step (in_expr.Variable name)
  unfolding hidden-the_row-Expr-0 hidden-the_row-Expr-1 hidden
  fold_variable name = refl

  pub fold_column : (table column : Text) → fold_expr A step (expr.Column table column) ≡ step (in_expr.Column table column)
  unfolding hidden-the_row-Expr-0 hidden-the_row-Expr-1 hidden
  fold_column table column = refl

  pub fold_not : (a : Expr) → fold_expr A step (expr.Not a) ≡ step (in_expr.Not (fold_expr A step a))
  unfolding hidden-the_row-Expr-0 hidden-the_row-Expr-1 hidden
  fold_not a = refl

  pub fold_and : (a b : Expr) → fold_expr A step (expr.And a b) ≡ step (in_expr.And (fold_expr A step a) (fold_expr A step b))
  unfolding hidden-the_row-Expr-0 hidden-the_row-Expr-1 hidden
  fold_and a b = refl

  pub fold_or : (a b : Expr) → fold_expr A step (expr.Or a b) ≡ step (in_expr.Or (fold_expr A step a) (fold_expr A step b))
  unfolding hidden-the_row-Expr-0 hidden-the_row-Expr-1 hidden
  fold_or a b = refl

  pub fold_binary : (op : Operator) (a b : Expr) → fold_expr A step (expr.Binary op a b) ≡ step (in_expr.Binary op (fold_expr A step a) (fold_expr A step b))
  unfolding hidden-the_row-Expr-0 hidden-the_row-Expr-1 hidden
  fold_binary op a b = refl

  pub fold_slice : (a b c : Expr) → fold_expr A step (expr.Slice a b c) ≡ step (in_expr.Slice (fold_expr A step a) (fold_expr A step b) (fold_expr A step c))
  unfolding hidden-the_row-Expr-0 hidden-the_row-Expr-1 hidden
  fold_slice a b c = refl

  pub fold_to_number : (a : Expr) → fold_expr A step (expr.ToNumber a) ≡ step (in_expr.ToNumber (fold_expr A step a))
  unfolding hidden-the_row-Expr-0 hidden-the_row-Expr-1 hidden
  fold_to_number a = refl

  pub fold_length_of : (a : Expr) → fold_expr A step (expr.LengthOf a) ≡ step (in_expr.LengthOf (fold_expr A step a))
  unfolding hidden-the_row-Expr-0 hidden-the_row-Expr-1 hidden
  fold_length_of a = refl

  pub fold_to_bytes : (a : Expr) (size : ℕ) → fold_expr A step (expr.ToBytes a size) ≡ step (in_expr.ToBytes (fold_expr A step a) size)
  unfolding hidden-the_row-Expr-0 hidden-the_row-Expr-1 hidden
  fold_to_bytes a size = refl

  pub fold_has_text : (a : Expr) (text : List ℕ) → fold_expr A step (expr.HasText a text) ≡ step (in_expr.HasText (fold_expr A step a) text)
  unfolding hidden-the_row-Expr-0 hidden-the_row-Expr-1 hidden
  fold_has_text a text = refl

  pub fold_is_present : (name : Text) → fold_expr A step (expr.IsPresent name) ≡ step (in_expr.IsPresent name)
  unfolding hidden-the_row-Expr-0 hidden-the_row-Expr-1 hidden
  fold_is_present name = refl

  pub fold_look_up : (table : Text) (renew : Bool) (keys : List Expr) → fold_expr A step (expr.LookUp table renew keys) ≡ step (in_expr.LookUp table renew (map (fold_expr A step) keys))
  fold_look_up table renew keys = ap (λ l. step (in_expr.LookUp table renew l)) (fold_keys keys)

module _ (A : Type 0) (step : ElementOf A → A) where
  -- the parts of a list, of cases and of a branch
  abbrev pub fold_part : Element → A
  fold_part x = fold_element A step x

  abbrev pub fold_case : Case → CaseOf A
  fold_case c = record { line = c.line; value = c.value; maxvalue = c.maxvalue; body = map fold_part c.body }

  abbrev pub fold_branch : Branch → BranchOf A
  fold_branch b = record { line = b.line; body = map fold_part b.body }

  pub fold_list : (xs : List Element) → fold_row A step (hidden-the_row-Element-0 xs) ≡ map fold_part xs
  unfolding hidden-the_row-Element-0 hidden
  fold_list [] = refl
  fold_list (x ∷ xs) = ap (λ l. fold_part x ∷ l) (fold_list xs)

  pub fold_case_list : (cs : List Case) → fold_cases A step (hidden-the_row-Case-1 cs) ≡ map fold_case cs
  unfolding hidden-the_row-Case-1 hidden
  fold_case_list [] = refl
  fold_case_list (c ∷ cs) = λ i. record { line = c.line; value = c.value; maxvalue = c.maxvalue; body = fold_list c.body i } ∷ fold_case_list cs i

  pub fold_other : (b : Option Branch) → fold_held A step (back-Element-Switch-3 b) ≡ option_map fold_branch b
  fold_other None = refl
  fold_other (Some b) = λ i. Some (record { line = b.line; body = fold_list b.body i })

  pub fold_block : (line : ℕ) (name : Text) (longname : Option (List ℕ)) (body : List Element) → fold_element A step (element.Block line name longname body) ≡ step (in_element.Block line name longname (map fold_part body))
  fold_block line name longname body = ap (λ l. step (in_element.Block line name longname l)) (fold_list body)

  pub fold_loop : (line : ℕ) (kind : LoopKind) (e : Expr) (body : List Element) → fold_element A step (element.Loop line kind e body) ≡ step (in_element.Loop line kind e (map fold_part body))
  fold_loop line kind e body = ap (λ l. step (in_element.Loop line kind e l)) (fold_list body)

  pub fold_switch : (line : ℕ) (e : Expr) (cs : List Case) (other : Option Branch) → fold_element A step (element.Switch line e cs other) ≡ step (in_element.Switch line e (map fold_case cs) (option_map fold_branch other))
  fold_switch line e cs other = λ i. step (in_element.Switch line e (fold_case_list cs i) (fold_other other i))

  pub fold_if : (line : ℕ) (e : Expr) (true_line : ℕ) (so : List Element) (other : Option Branch) → fold_element A step (element.If line e true_line so other) ≡ step (in_element.If line e true_line (map fold_part so) (option_map fold_branch other))
  fold_if line e true_line so other = λ i. step (in_element.If line e true_line (fold_list so i) (fold_other other i))

module _ (B : Type 0) (of : Element → B) (A : Type 0) (step : ElementOf (Noted B A) → A) where
  -- the parts of a list, of cases and of a branch
  abbrev pub noted_part : Element → Noted B A
  noted_part x = record { note = of x; means = noted_element B of A step x }

  abbrev pub noted_case : Case → CaseOf (Noted B A)
  noted_case c = record { line = c.line; value = c.value; maxvalue = c.maxvalue; body = map noted_part c.body }

  abbrev pub noted_branch : Branch → BranchOf (Noted B A)
  noted_branch b = record { line = b.line; body = map noted_part b.body }

  pub noted_list : (xs : List Element) → noted_row B of A step (hidden-the_row-Element-0 xs) ≡ map noted_part xs
  unfolding hidden-the_row-Element-0 hidden
  noted_list [] = refl
  noted_list (x ∷ xs) = ap (λ l. noted_part x ∷ l) (noted_list xs)

  pub noted_case_list : (cs : List Case) → noted_cases B of A step (hidden-the_row-Case-1 cs) ≡ map noted_case cs
  unfolding hidden-the_row-Case-1 hidden
  noted_case_list [] = refl
  noted_case_list (c ∷ cs) = λ i. record { line = c.line; value = c.value; maxvalue = c.maxvalue; body = noted_list c.body i } ∷ noted_case_list cs i

  pub noted_other : (b : Option Branch) → noted_held B of A step (back-Element-Switch-3 b) ≡ option_map noted_branch b
  noted_other None = refl
  noted_other (Some b) = λ i. Some (record { line = b.line; body = noted_list b.body i })

  pub noted_block : (line : ℕ) (name : Text) (longname : Option (List ℕ)) (body : List Element) → noted_element B of A step (element.Block line name longname body) ≡ step (in_element.Block line name longname (map noted_part body))
  noted_block line name longname body = ap (λ l. step (in_element.Block line name longname l)) (noted_list body)

  pub noted_loop : (line : ℕ) (kind : LoopKind) (e : Expr) (body : List Element) → noted_element B of A step (element.Loop line kind e body) ≡ step (in_element.Loop line kind e (map noted_part body))
  noted_loop line kind e body = ap (λ l. step (in_element.Loop line kind e l)) (noted_list body)

  pub noted_switch : (line : ℕ) (e : Expr) (cs : List Case) (other : Option Branch) → noted_element B of A step (element.Switch line e cs other) ≡ step (in_element.Switch line e (map noted_case cs) (option_map noted_branch other))
  noted_switch line e cs other = λ i. step (in_element.Switch line e (noted_case_list cs i) (noted_other other i))

  pub noted_if : (line : ℕ) (e : Expr) (true_line : ℕ) (so : List Element) (other : Option Branch) → noted_element B of A step (element.If line e true_line so other) ≡ step (in_element.If line e true_line (map noted_part so) (option_map noted_branch other))
  noted_if line e true_line so other = λ i. step (in_element.If line e true_line (noted_list so i) (noted_other other i))
