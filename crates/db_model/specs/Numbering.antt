-- The fields and the blocks of a protocol are numbered in the order of its text, from 0: the field list first, then the named blocks, each of which counts itself. An included block is counted where it stands.
use Rattle.std.specs.Prelude.{ℕ, ◌+◌, List, [], ◌∷◌, ◌++◌, map, slice_get, if◌then◌else◌, bytes_eq, Option, Some, None}
use Rattle.db_model.specs.declared.database.Database.{Database}
use Rattle.db_model.specs.declared.database.Protocol.{Protocol}
use Rattle.db_model.specs.declared.database.Format.{Format}
use Rattle.db_model.specs.declared.database.NamedBlock.{NamedBlock}
use Rattle.db_model.specs.declared.database.ElementList.{ElementList}
use Rattle.db_model.specs.declared.element.Element.{Element}
use Rattle.db_model.specs.declared.element.Element.TheOpen as layer
use Rattle.db_model.specs.Folds.{CaseOf, BranchOf, ElementOf, fold_element}
use Rattle.db_model.specs.Names.{Text}

pub record Counts : Type 0 where
  pub fields : ℕ
  pub blocks : ℕ

abbrev pub none : Counts
none = record { fields = 0; blocks = 0 }

abbrev pub a_field : Counts
a_field = record { fields = 1; blocks = 0 }

abbrev pub a_block : Counts
a_block = record { fields = 0; blocks = 1 }

abbrev pub plus : Counts → Counts → Counts
plus a b = record { fields = a.fields + b.fields; blocks = a.blocks + b.blocks }

-- ---- how many fields and blocks stand in an element

abbrev pub all_counts : List Counts → Counts
all_counts [] = none
all_counts (c ∷ cs) = plus c (all_counts cs)

abbrev pub case_counts : List (CaseOf Counts) → Counts
case_counts [] = none
case_counts (c ∷ cs) = plus (all_counts c.body) (case_counts cs)

abbrev pub branch_counts : Option (BranchOf Counts) → Counts
branch_counts None = none
branch_counts (Some b) = all_counts b.body

abbrev pub counts_step : ElementOf Counts → Counts
counts_step (layer.Field line name form longname show) = a_field
counts_step (layer.Block line name longname body) = plus a_block (all_counts body)
counts_step (layer.IncludeBlock line name) = none
counts_step (layer.Loop line kind e body) = all_counts body
counts_step (layer.LoopCtrl line kind) = none
counts_step (layer.Switch line e cases other) = plus (case_counts cases) (branch_counts other)
counts_step (layer.If line e true_line so other) = plus (all_counts so) (branch_counts other)
counts_step (layer.Assign line name value) = none
counts_step (layer.Update line table validity keep hit keys row) = none
counts_step (layer.NextProto line proto) = none

unfoldable pub counts_of : Element → Counts
counts_of = fold_element Counts counts_step

abbrev pub counts_in : List Element → Counts
counts_in xs = all_counts (map counts_of xs)

-- ---- the names of the fields in an element, in the order of the text

abbrev pub all_names : List (List Text) → List Text
all_names [] = []
all_names (ns ∷ more) = ns ++ all_names more

abbrev pub case_names : List (CaseOf (List Text)) → List Text
case_names [] = []
case_names (c ∷ cs) = all_names c.body ++ case_names cs

abbrev pub branch_names : Option (BranchOf (List Text)) → List Text
branch_names None = []
branch_names (Some b) = all_names b.body

abbrev pub names_step : ElementOf (List Text) → List Text
names_step (layer.Field line name form longname show) = name ∷ []
names_step (layer.Block line name longname body) = all_names body
names_step (layer.IncludeBlock line name) = []
names_step (layer.Loop line kind e body) = all_names body
names_step (layer.LoopCtrl line kind) = []
names_step (layer.Switch line e cases other) = case_names cases ++ branch_names other
names_step (layer.If line e true_line so other) = all_names so ++ branch_names other
names_step (layer.Assign line name value) = []
names_step (layer.Update line table validity keep hit keys row) = []
names_step (layer.NextProto line proto) = []

unfoldable pub names_of : Element → List Text
names_of = fold_element (List Text) names_step

abbrev pub names_in : List Element → List Text
names_in xs = all_names (map names_of xs)

-- ---- the parts of a protocol

abbrev pub elements_in : Option ElementList → List Element
elements_in None = []
elements_in (Some l) = l.elements

abbrev pub fields_in : Option Format → List Element
fields_in None = []
fields_in (Some f) = elements_in f.fields

abbrev pub blocks_in : Option Format → List NamedBlock
blocks_in None = []
blocks_in (Some f) = f.blocks

-- the names of the fields of a protocol, by their numbers
unfoldable pub field_names : Protocol → List Text
field_names p = names_in (fields_in p.format) ++ all_names (map (λ (b : NamedBlock). names_in b.body) (blocks_in p.format))

abbrev pub names_at : Option Protocol → List Text
names_at None = []
names_at (Some p) = field_names p

-- those of the protocol of this number
abbrev pub names_of_protocol : Database → ℕ → List Text
names_of_protocol db q = names_at (slice_get db.protocols q)

-- a named block with what stands before it
pub record BlockAt : Type 0 where
  pub before : Counts
  pub body : List Element

abbrev pub block_from : Counts → Text → List NamedBlock → Option BlockAt
block_from at name [] = None
block_from at name (b ∷ bs) = if bytes_eq name b.name then Some (record { before = at; body = b.body }) else block_from (plus (plus at a_block) (counts_in b.body)) name bs

-- the first named block of this name
abbrev pub block_at : Protocol → Text → Option BlockAt
block_at p name = block_from (counts_in (fields_in p.format)) name (blocks_in p.format)
