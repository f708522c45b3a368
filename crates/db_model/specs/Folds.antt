-- One fold for expressions and one for elements. Each meaning of an expression or an element is a step on one layer, with the meanings of the parts in place of the parts. No other file names how the checker stores a tree.
use Rattle.std.specs.Prelude.{List, [], ◌∷◌, Option, Some, None}
use Rattle.db_model.specs.declared.expression.Expr as expr
use Rattle.db_model.specs.declared.expression.Expr.{Expr, Expr-F, Row_of-Expr, end_of-Expr, more_of-Expr}
use Rattle.db_model.specs.declared.expression.Expr.TheOpen as in_expr
use Rattle.db_model.specs.declared.element.Element as element
use Rattle.db_model.specs.declared.element.Element.{Element, Element-F, Row_of-Element, end_of-Element, more_of-Element, Row_of-Case, end_of-Case, more_of-Case, Held-Element-Switch-3, None', Some'}
use Rattle.db_model.specs.declared.element.Element.TheOpen as in_element
use Rattle.db_model.specs.declared.element.Element.TheOpen.{Branch-F, Case-F}

-- what a step makes of an expression, from the innermost parts outwards
module _ (A : Type 0) (step : Expr-F A → A) where
  abbrev mutual
    pub fold_expr : Expr → A
    fold_expr (expr.Number n) = step (in_expr.Number n)
    fold_expr (expr.Text b) = step (in_expr.Text b)
    fold_expr (expr.Protocol name) = step (in_expr.Protocol name)
    fold_expr (expr.Field name) = step (in_expr.Field name)
    fold_expr (expr.Variable name) = step (in_expr.Variable name)
    fold_expr (expr.Column table column) = step (in_expr.Column table column)
    fold_expr (expr.Not' s (more_of-Expr a end_of-Expr)) = step (in_expr.Not (fold_expr a))
    fold_expr (expr.And' s (more_of-Expr a end_of-Expr) t (more_of-Expr b end_of-Expr)) = step (in_expr.And (fold_expr a) (fold_expr b))
    fold_expr (expr.Or' s (more_of-Expr a end_of-Expr) t (more_of-Expr b end_of-Expr)) = step (in_expr.Or (fold_expr a) (fold_expr b))
    fold_expr (expr.Binary' op s (more_of-Expr a end_of-Expr) t (more_of-Expr b end_of-Expr)) = step (in_expr.Binary op (fold_expr a) (fold_expr b))
    fold_expr (expr.Slice' s (more_of-Expr a end_of-Expr) t (more_of-Expr b end_of-Expr) u (more_of-Expr c end_of-Expr)) = step (in_expr.Slice (fold_expr a) (fold_expr b) (fold_expr c))
    fold_expr (expr.ToNumber' s (more_of-Expr a end_of-Expr)) = step (in_expr.ToNumber (fold_expr a))
    fold_expr (expr.LengthOf' s (more_of-Expr a end_of-Expr)) = step (in_expr.LengthOf (fold_expr a))
    fold_expr (expr.ToBytes' s (more_of-Expr a end_of-Expr) size) = step (in_expr.ToBytes (fold_expr a) size)
    fold_expr (expr.HasText' s (more_of-Expr a end_of-Expr) text) = step (in_expr.HasText (fold_expr a) text)
    fold_expr (expr.IsPresent name) = step (in_expr.IsPresent name)
    fold_expr (expr.LookUp' table renew s keys) = step (in_expr.LookUp table renew (fold_exprs keys))

    pub fold_exprs : {m : _} → Row_of-Expr m → List A
    fold_exprs end_of-Expr = []
    fold_exprs (more_of-Expr e rest) = fold_expr e ∷ fold_exprs rest

-- a case, a branch and an element with what a step made of the elements in them
abbrev pub CaseOf : Type 0 → Type 0
CaseOf A = Case-F A (Unit {0}) (Unit {0})

abbrev pub BranchOf : Type 0 → Type 0
BranchOf A = Branch-F A (Unit {0}) (Unit {0})

abbrev pub ElementOf : Type 0 → Type 0
ElementOf A = Element-F A (BranchOf A) (CaseOf A)

-- what a step makes of an element, from the innermost elements outwards
module _ (A : Type 0) (step : ElementOf A → A) where
  abbrev mutual
    pub fold_element : Element → A
    fold_element (element.Field line name form longname show) = step (in_element.Field line name form longname show)
    fold_element (element.Block' line name longname s body) = step (in_element.Block line name longname (fold_row body))
    fold_element (element.IncludeBlock line name) = step (in_element.IncludeBlock line name)
    fold_element (element.Loop' line kind e s body) = step (in_element.Loop line kind e (fold_row body))
    fold_element (element.LoopCtrl line kind) = step (in_element.LoopCtrl line kind)
    fold_element (element.Switch' line e s cases other) = step (in_element.Switch line e (fold_cases cases) (fold_held other))
    fold_element (element.If' line e true_line s body other) = step (in_element.If line e true_line (fold_row body) (fold_held other))
    fold_element (element.Assign line name value) = step (in_element.Assign line name value)
    fold_element (element.Update line table validity keep hit keys row) = step (in_element.Update line table validity keep hit keys row)
    fold_element (element.NextProto line proto) = step (in_element.NextProto line proto)

    pub fold_row : {m : _} → Row_of-Element m → List A
    fold_row end_of-Element = []
    fold_row (more_of-Element x rest) = fold_element x ∷ fold_row rest

    pub fold_cases : {m : _} → Row_of-Case m → List (CaseOf A)
    fold_cases end_of-Case = []
    fold_cases (more_of-Case line value maxvalue s body rest) = record { line = line; value = value; maxvalue = maxvalue; body = fold_row body } ∷ fold_cases rest

    pub fold_held : Held-Element-Switch-3 → Option (BranchOf A)
    fold_held None' = None
    fold_held (Some' line s body) = Some (record { line = line; body = fold_row body })

-- what a part means, beside what another fold says of it
pub record Noted (B A : Type 0) : Type 0 where
  pub note : B
  pub means : A

-- the same fold, where the step also sees a note on each part
module _ (B : Type 0) (of : Element → B) (A : Type 0) (step : ElementOf (Noted B A) → A) where
  abbrev mutual
    pub noted_element : Element → A
    noted_element (element.Field line name form longname show) = step (in_element.Field line name form longname show)
    noted_element (element.Block' line name longname s body) = step (in_element.Block line name longname (noted_row body))
    noted_element (element.IncludeBlock line name) = step (in_element.IncludeBlock line name)
    noted_element (element.Loop' line kind e s body) = step (in_element.Loop line kind e (noted_row body))
    noted_element (element.LoopCtrl line kind) = step (in_element.LoopCtrl line kind)
    noted_element (element.Switch' line e s cases other) = step (in_element.Switch line e (noted_cases cases) (noted_held other))
    noted_element (element.If' line e true_line s body other) = step (in_element.If line e true_line (noted_row body) (noted_held other))
    noted_element (element.Assign line name value) = step (in_element.Assign line name value)
    noted_element (element.Update line table validity keep hit keys row) = step (in_element.Update line table validity keep hit keys row)
    noted_element (element.NextProto line proto) = step (in_element.NextProto line proto)

    pub noted_row : {m : _} → Row_of-Element m → List (Noted B A)
    noted_row end_of-Element = []
    noted_row (more_of-Element x rest) = record { note = of x; means = noted_element x } ∷ noted_row rest

    pub noted_cases : {m : _} → Row_of-Case m → List (CaseOf (Noted B A))
    noted_cases end_of-Case = []
    noted_cases (more_of-Case line value maxvalue s body rest) = record { line = line; value = value; maxvalue = maxvalue; body = noted_row body } ∷ noted_cases rest

    pub noted_held : Held-Element-Switch-3 → Option (BranchOf (Noted B A))
    noted_held None' = None
    noted_held (Some' line s body) = Some (record { line = line; body = noted_row body })
