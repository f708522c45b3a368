-- The faults of included blocks: one that includes itself (45), and blocks and loops that stand too deep in one another (46).
use Rattle.std.specs.Prelude.{◌≡◌, ℕ, zero, suc, Bool, true, false, not, ◌||◌, ◌&&◌, List, [], ◌∷◌, ◌++◌, map, length, bytes_eq, is_some, Option, Some, None}
use Rattle.std.specs.List.{list_any, list_all}
use Rattle.db_model.specs.declared.database.Database.{Database}
use Rattle.db_model.specs.declared.database.NamedBlock.{NamedBlock}
use Rattle.db_model.specs.declared.database.Protocol.{Protocol}
use Rattle.db_model.specs.declared.element.Element.{Element}
use Rattle.db_model.specs.declared.element.Element.TheOpen as layer
use Rattle.db_model.specs.declared.limits.TheConstants.{MOST_NESTED}
use Rattle.db_model.specs.Chain.{elements_of}
use Rattle.db_model.specs.Folds.{CaseOf, BranchOf, ElementOf, fold_element}
use Rattle.db_model.specs.Lines.{Lines, over, at_line}
use Rattle.db_model.specs.Names.{Text}
use Rattle.db_model.specs.Numbering.{BlockAt, block_at, blocks_in, all_names, case_names, branch_names}

-- ---- the blocks that are included

abbrev pub includes_step : ElementOf (List Text) → List Text
includes_step (layer.Field line name f longname show) = []
includes_step (layer.Block line name longname body) = all_names body
includes_step (layer.IncludeBlock line name) = name ∷ []
includes_step (layer.Loop line k e body) = all_names body
includes_step (layer.LoopCtrl line c) = []
includes_step (layer.Switch line e cases other) = case_names cases ++ branch_names other
includes_step (layer.If line e true_line so other) = all_names so ++ branch_names other
includes_step (layer.Assign line name e) = []
includes_step (layer.Update line table validity keep hit keys row) = []
includes_step (layer.NextProto line e) = []

-- the names of the blocks that are included in an element
abbrev pub includes_of : Element → List Text
includes_of = fold_element (List Text) includes_step

abbrev pub includes_in : List Element → List Text
includes_in xs = all_names (map includes_of xs)

abbrev pub included_by : Option BlockAt → List Text
included_by None = []
included_by (Some b) = includes_in b.body

-- ---- a block that includes itself

-- a name includes another: it stands in the block of the one
abbrev pub Includes : Protocol → Text → Text → Type 0
Includes p a b = list_any (bytes_eq b) (included_by (block_at p a)) ≡ true

-- a name includes another at once, or through others, however many
pub data Reaches (p : Protocol) : Text → Text → Type 0 where
  AtOnce : (a b : Text) → Includes p a b → Reaches p a b
  Through : (a b c : Text) → Includes p a b → Reaches p b c → Reaches p a c

-- whether a block is among the names, or is included by one of them through at most so many others
abbrev pub reaches : Protocol → Text → ℕ → List Text → Bool
reaches p goal zero names = list_any (bytes_eq goal) names
reaches p goal (suc n) names = list_any (bytes_eq goal) names || list_any (λ name. reaches p goal n (included_by (block_at p name))) names

-- at once or through others, of which a protocol has no more than its blocks
abbrev pub includes_itself : Protocol → NamedBlock → Bool
includes_itself p b = reaches p b.name (length (blocks_in p.format)) (includes_in b.body)

abbrev pub unless : {A : Type 0} → Bool → A → List A → List A
unless true x xs = xs
unless false x xs = x ∷ xs

-- the blocks that an include can mean: the first of each name, where those before have these names
abbrev pub firsts : List Text → List NamedBlock → List NamedBlock
firsts before [] = []
firsts before (b ∷ bs) = unless (list_any (bytes_eq b.name) before) b (firsts (b.name ∷ before) bs)

abbrev pub protocol_45 : Protocol → Lines
protocol_45 p = over (λ (b : NamedBlock). at_line b.line (includes_itself p b)) (firsts [] (blocks_in p.format))

-- fault 45: a named block that includes itself, at once or through others. A later block of the same name is never included
unfoldable pub fault_45 : Database → Lines
fault_45 db = over protocol_45 db.protocols

-- ---- blocks and loops in one another

-- whether an element's blocks and loops stand within so many levels
abbrev pub Within : Type 0
Within = ℕ → Bool

-- a block or a loop takes one level
abbrev pub one_within : Within → Within
one_within body zero = false
one_within body (suc n) = body n

abbrev pub all_within : List Within → Within
all_within [] n = true
all_within (x ∷ xs) n = x n && all_within xs n

abbrev pub cases_within : List (CaseOf Within) → Within
cases_within [] n = true
cases_within (c ∷ cs) n = all_within c.body n && cases_within cs n

abbrev pub branch_within : Option (BranchOf Within) → Within
branch_within None n = true
branch_within (Some b) n = all_within b.body n

module _ (include : Text → Within) where
  abbrev pub within_step : ElementOf Within → Within
  within_step (layer.Field line name f longname show) n = true
  within_step (layer.Block line name longname body) n = one_within (all_within body) n
  within_step (layer.IncludeBlock line name) n = include name n
  within_step (layer.Loop line k e body) n = one_within (all_within body) n
  within_step (layer.LoopCtrl line c) n = true
  within_step (layer.Switch line e cases other) n = cases_within cases n && branch_within other n
  within_step (layer.If line e true_line so other) n = all_within so n && branch_within other n
  within_step (layer.Assign line name e) n = true
  within_step (layer.Update line table validity keep hit keys row) n = true
  within_step (layer.NextProto line e) n = true

  abbrev pub within_of : Element → Within
  within_of = fold_element Within within_step

  abbrev pub within_in : List Element → Within
  within_in xs = all_within (map within_of xs)

abbrev pub block_by : (Text → Within) → Option BlockAt → Within
block_by include None n = true
block_by include (Some b) n = one_within (within_in include b.body) n

-- an included block is counted where it is included, through at most so many includes; one that isn't declared nests nothing
abbrev pub block_within : Protocol → ℕ → Text → Within
block_within p zero name n = not (is_some (block_at p name))
block_within p (suc f) name n = block_by (block_within p f) (block_at p name) n

-- from the protocol's own lists, and from each named block, which counts itself
abbrev pub protocol_within : Protocol → Bool
protocol_within p =
    within_in (block_within p MOST_NESTED) (elements_of p) MOST_NESTED
    && list_all (λ (b : NamedBlock). one_within (within_in (block_within p MOST_NESTED) b.body) MOST_NESTED) (blocks_in p.format)

abbrev pub is_nothing : Lines → Bool
is_nothing [] = true
is_nothing (l ∷ ls) = false

abbrev pub protocol_46 : Protocol → Lines
protocol_46 p = at_line p.line (is_nothing (protocol_45 p) && not (protocol_within p))

-- fault 46: a protocol without fault 45 whose blocks and loops stand too deep in one another, included ones counted
unfoldable pub fault_46 : Database → Lines
fault_46 db = over protocol_46 db.protocols
