-- How high the blocks and loops of an element stand in one another, up to one more than is allowed. Included blocks have the heights of a table, which is made round by round.
use Rattle.std.specs.Prelude.{ℕ, zero, suc, min, max, List, [], ◌∷◌, map, slice_get, unwrap_or, Option, Some, None}
use Rattle.db_model.specs.declared.database.NamedBlock.{NamedBlock}
use Rattle.db_model.specs.declared.database.Protocol.{Protocol}
use Rattle.db_model.specs.declared.element.Branch.{Branch}
use Rattle.db_model.specs.declared.element.Case.{Case}
use Rattle.db_model.specs.declared.element.Element.{Element}
use Rattle.db_model.specs.declared.element.Element.TheOpen as layer
use Rattle.db_model.specs.Folds.{CaseOf, BranchOf, ElementOf, fold_element}
use Rattle.db_model.specs.NameFaults.{block_names}
use Rattle.db_model.specs.Names.{Text, place}
use Rattle.db_model.specs.Numbering.{blocks_in}
use Rattle.db_check.specs.declared.heights.TheConstants.{TOO_HIGH}

-- a block or a loop around it
abbrev pub raised : ℕ → ℕ
raised n = min (suc n) TOO_HIGH

abbrev pub tallest : List ℕ → ℕ
tallest [] = 0
tallest (h ∷ hs) = max h (tallest hs)

abbrev pub case_heights : List (CaseOf ℕ) → ℕ
case_heights [] = 0
case_heights (c ∷ cs) = max (tallest c.body) (case_heights cs)

abbrev pub branch_height : Option (BranchOf ℕ) → ℕ
branch_height None = 0
branch_height (Some b) = tallest b.body

module _ (include : Text → ℕ) where
  abbrev pub height_step : ElementOf ℕ → ℕ
  height_step (layer.Field line name form longname show) = 0
  height_step (layer.Block line name longname body) = raised (tallest body)
  height_step (layer.IncludeBlock line name) = include name
  height_step (layer.Loop line k e body) = raised (tallest body)
  height_step (layer.LoopCtrl line c) = 0
  height_step (layer.Switch line e cases other) = max (case_heights cases) (branch_height other)
  height_step (layer.If line e true_line so other) = max (tallest so) (branch_height other)
  height_step (layer.Assign line name e) = 0
  height_step (layer.Update line table validity keep hit keys row) = 0
  height_step (layer.NextProto line e) = 0

  abbrev pub height_of : Element → ℕ
  height_of = fold_element ℕ height_step

  abbrev pub height_in : List Element → ℕ
  height_in xs = tallest (map height_of xs)

  abbrev pub height_of_cases : List Case → ℕ
  height_of_cases cs = tallest (map (λ (c : Case). height_in c.body) cs)

  abbrev pub height_of_other : Option Branch → ℕ
  height_of_other None = 0
  height_of_other (Some b) = height_in b.body

-- the height of the first block of a name; one that isn't declared has none
abbrev pub height_at : List Text → List ℕ → Text → ℕ
height_at names heights name = unwrap_or (slice_get heights (place name names)) 0

-- the height of each named block, which counts itself, by those of the blocks that it includes
abbrev pub next_heights : Protocol → List ℕ → List ℕ
next_heights p heights = map (λ (b : NamedBlock). raised (height_in (height_at (block_names p) heights) b.body)) (blocks_in p.format)

-- those after so many rounds: right up to one less than that
unfoldable pub heights_after : Protocol → ℕ → List ℕ
heights_after p zero = map (λ (b : NamedBlock). 0) (blocks_in p.format)
heights_after p (suc n) = next_heights p (heights_after p n)
