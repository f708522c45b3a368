-- The lines at which something is wrong in the elements of a database, each element by itself and those in it.
use Rattle.std.specs.Prelude.{ℕ, Bool, if◌then◌else◌, List, [], ◌∷◌, ◌++◌, map, Option, Some, None}
use Rattle.db_model.specs.declared.database.NamedBlock.{NamedBlock}
use Rattle.db_model.specs.declared.database.Protocol.{Protocol}
use Rattle.db_model.specs.declared.element.Element.{Element}
use Rattle.db_model.specs.declared.element.Element.TheOpen as layer
use Rattle.db_model.specs.Chain.{elements_of}
use Rattle.db_model.specs.Folds.{CaseOf, BranchOf, ElementOf, fold_element}
use Rattle.db_model.specs.Numbering.{blocks_in}

abbrev pub Lines : Type 0
Lines = List ℕ

abbrev pub joined : List Lines → Lines
joined [] = []
joined (l ∷ ls) = l ++ joined ls

-- the lines of all of a list
abbrev pub over : {A : Type 0} → (A → Lines) → List A → Lines
over f xs = joined (map f xs)

abbrev pub over_option : {A : Type 0} → (A → Lines) → Option A → Lines
over_option f None = []
over_option f (Some a) = f a

-- the line, where the test says that something is wrong
abbrev pub at_line : ℕ → Bool → Lines
at_line line wrong = if wrong then line ∷ [] else []

-- the lines in the elements that stand in an element
abbrev pub inside : ElementOf Lines → Lines
inside (layer.Field line name form longname show) = []
inside (layer.Block line name longname body) = joined body
inside (layer.IncludeBlock line name) = []
inside (layer.Loop line kind e body) = joined body
inside (layer.LoopCtrl line kind) = []
inside (layer.Switch line e cases other) = over (λ (c : CaseOf Lines). joined c.body) cases ++ over_option (λ (b : BranchOf Lines). joined b.body) other
inside (layer.If line e true_line so other) = joined so ++ over_option (λ (b : BranchOf Lines). joined b.body) other
inside (layer.Assign line name value) = []
inside (layer.Update line table validity keep hit keys row) = []
inside (layer.NextProto line proto) = []

-- the lines of an element itself, and of those in it
abbrev pub lines_of : (ElementOf Lines → Lines) → Element → Lines
lines_of own = fold_element Lines (λ x. own x ++ inside x)

-- the lines of all elements of a protocol, its named blocks included
abbrev pub lines_in : (ElementOf Lines → Lines) → Protocol → Lines
lines_in own p = over (lines_of own) (elements_of p) ++ over (λ (b : NamedBlock). over (lines_of own) b.body) (blocks_in p.format)
