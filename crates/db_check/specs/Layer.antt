-- One layer of an element, with what a step makes of the elements in it.
use Rattle.std.specs.Prelude.{List, ◌++◌, Option}
use Rattle.db_model.specs.declared.database.NamedBlock.{NamedBlock}
use Rattle.db_model.specs.declared.element.Branch.{Branch}
use Rattle.db_model.specs.declared.element.Case.{Case}
use Rattle.db_model.specs.declared.element.Element as element
use Rattle.db_model.specs.declared.element.Element.{Element, Row_of-Element, Row_of-Case, Held-Element-Switch-3}
use Rattle.db_model.specs.declared.element.Element.TheOpen as layer
use Rattle.db_model.specs.Folds.{ElementOf, fold_row, fold_cases, fold_held}
use Rattle.db_model.specs.Lines.{Lines, over, over_option, inside, lines_of}

module _ (A : Type 0) (step : ElementOf A → A) where
  abbrev pub layer_of : Element → ElementOf A
  layer_of (element.Field line name form longname show) = layer.Field line name form longname show
  layer_of (element.Block' line name longname s body) = layer.Block line name longname (fold_row A step body)
  layer_of (element.IncludeBlock line name) = layer.IncludeBlock line name
  layer_of (element.Loop' line kind e s body) = layer.Loop line kind e (fold_row A step body)
  layer_of (element.LoopCtrl line kind) = layer.LoopCtrl line kind
  layer_of (element.Switch' line e s cases other) = layer.Switch line e (fold_cases A step cases) (fold_held A step other)
  layer_of (element.If' line e true_line s body other) = layer.If line e true_line (fold_row A step body) (fold_held A step other)
  layer_of (element.Assign line name value) = layer.Assign line name value
  layer_of (element.Update line table validity keep hit keys row) = layer.Update line table validity keep hit keys row
  layer_of (element.NextProto line proto) = layer.NextProto line proto

-- the lines of an element itself, and those of the elements in it
abbrev pub own_at : (ElementOf Lines → Lines) → Element → Lines
own_at own x = own (layer_of Lines (λ y. own y ++ inside y) x)

abbrev pub inside_at : (ElementOf Lines → Lines) → Element → Lines
inside_at own x = inside (layer_of Lines (λ y. own y ++ inside y) x)

-- those of the elements in cases, in a branch and in named blocks
abbrev pub lines_of_cases : (ElementOf Lines → Lines) → List Case → Lines
lines_of_cases own cases = over (λ (c : Case). over (lines_of own) c.body) cases

abbrev pub lines_of_other : (ElementOf Lines → Lines) → Option Branch → Lines
lines_of_other own other = over_option (λ (b : Branch). over (lines_of own) b.body) other

abbrev pub lines_of_blocks : (ElementOf Lines → Lines) → List NamedBlock → Lines
lines_of_blocks own blocks = over (λ (b : NamedBlock). over (lines_of own) b.body) blocks
