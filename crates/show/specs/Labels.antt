-- What a database calls its fields and blocks, by their numbers: the field list first, then the named blocks, each of which counts itself.
use Rattle.std.specs.Prelude.{ℕ, List, [], ◌∷◌, ◌++◌, map, slice_get, codes, Option, Some, None}
use Rattle.std.specs.Option.{option_map}
use Rattle.db_model.specs.declared.database.Database.{Database}
use Rattle.db_model.specs.declared.database.NamedBlock.{NamedBlock}
use Rattle.db_model.specs.declared.database.Protocol.{Protocol}
use Rattle.db_model.specs.declared.database.ShowTemplate.{ShowTemplate}
use Rattle.db_model.specs.declared.element.Branch.{Branch}
use Rattle.db_model.specs.declared.element.Case.{Case}
use Rattle.db_model.specs.declared.element.Element.{Element}
use Rattle.db_model.specs.declared.element.Element.TheOpen as layer
use Rattle.db_model.specs.Folds.{CaseOf, BranchOf, ElementOf, fold_element}
use Rattle.db_model.specs.Names.{Text, place}
use Rattle.db_model.specs.Numbering.{fields_in, blocks_in}
use Rattle.show.specs.declared.labels.ProtocolLabels.{ProtocolLabels}
use Rattle.show.specs.declared.naming.BlockNaming.{BlockNaming}
use Rattle.show.specs.declared.naming.FieldNaming.{FieldNaming}
use Rattle.show.specs.Naming.{begun}
use Rattle.show.specs.Shown.{shown}

-- the place of the first show template of a name
abbrev pub template_place : List ShowTemplate → Text → ℕ
template_place templates name = place name (map (λ t. t.name) templates)

abbrev pub field_label : List ShowTemplate → Text → Option (List ℕ) → Option Text → FieldNaming
field_label templates name longname show = record { name = name; longname = longname; template = option_map (template_place templates) show }

abbrev pub block_label : Text → Option (List ℕ) → BlockNaming
block_label name longname = record { name = name; longname = longname }

-- ---- the labels in an element, in the order of the text

abbrev pub none : ProtocolLabels
none = record { line = []; fields = []; blocks = [] }

abbrev pub a_field : FieldNaming → ProtocolLabels
a_field label = record { line = []; fields = label ∷ []; blocks = [] }

abbrev pub a_block : BlockNaming → ProtocolLabels
a_block label = record { line = []; fields = []; blocks = label ∷ [] }

-- some with others behind them; the line is that of the first
abbrev pub then : ProtocolLabels → ProtocolLabels → ProtocolLabels
then a b = record { line = a.line; fields = a.fields ++ b.fields; blocks = a.blocks ++ b.blocks }

abbrev pub all_labels : List ProtocolLabels → ProtocolLabels
all_labels [] = none
all_labels (l ∷ ls) = then l (all_labels ls)

abbrev pub case_labels : List (CaseOf ProtocolLabels) → ProtocolLabels
case_labels [] = none
case_labels (c ∷ cs) = then (all_labels c.body) (case_labels cs)

abbrev pub branch_labels : Option (BranchOf ProtocolLabels) → ProtocolLabels
branch_labels None = none
branch_labels (Some b) = all_labels b.body

abbrev pub labels_step : List ShowTemplate → ElementOf ProtocolLabels → ProtocolLabels
labels_step templates (layer.Field line name form longname show) = a_field (field_label templates name longname show)
labels_step templates (layer.Block line name longname body) = then (a_block (block_label name longname)) (all_labels body)
labels_step templates (layer.IncludeBlock line name) = none
labels_step templates (layer.Loop line kind e body) = all_labels body
labels_step templates (layer.LoopCtrl line kind) = none
labels_step templates (layer.Switch line e cases other) = then (case_labels cases) (branch_labels other)
labels_step templates (layer.If line e true_line so other) = then (all_labels so) (branch_labels other)
labels_step templates (layer.Assign line name value) = none
labels_step templates (layer.Update line table validity keep hit keys row) = none
labels_step templates (layer.NextProto line proto) = none

unfoldable pub labels_of_element : List ShowTemplate → Element → ProtocolLabels
labels_of_element templates = fold_element ProtocolLabels (labels_step templates)

abbrev pub labels_in : List ShowTemplate → List Element → ProtocolLabels
labels_in templates xs = all_labels (map (labels_of_element templates) xs)

abbrev pub labels_of_cases : List ShowTemplate → List Case → ProtocolLabels
labels_of_cases templates cases = all_labels (map (λ (c : Case). labels_in templates c.body) cases)

abbrev pub labels_of_other : List ShowTemplate → Option Branch → ProtocolLabels
labels_of_other templates None = none
labels_of_other templates (Some b) = labels_in templates b.body

-- ---- the labels of a protocol

abbrev pub labels_of_block : List ShowTemplate → NamedBlock → ProtocolLabels
labels_of_block templates b = then (a_block (block_label b.name b.longname)) (labels_in templates b.body)

abbrev pub labels_of_blocks : List ShowTemplate → List NamedBlock → ProtocolLabels
labels_of_blocks templates blocks = all_labels (map (labels_of_block templates) blocks)

-- how its line begins, with no field and no block
abbrev pub only_line : Protocol → ProtocolLabels
only_line p = record { line = begun (codes "<proto") p.name p.longname; fields = []; blocks = [] }

unfoldable pub labels_of_protocol : List ShowTemplate → Protocol → ProtocolLabels
labels_of_protocol templates p = then (then (only_line p) (labels_in templates (fields_in p.format))) (labels_of_blocks templates (blocks_in p.format))

-- those of each protocol of a database
unfoldable pub labels_of : Database → List ProtocolLabels
labels_of db = map (labels_of_protocol db.show_templates) db.protocols

-- ---- labels by number

abbrev pub fields_at : Option ProtocolLabels → List FieldNaming
fields_at None = []
fields_at (Some l) = l.fields

abbrev pub blocks_at : Option ProtocolLabels → List BlockNaming
blocks_at None = []
blocks_at (Some l) = l.blocks

-- the label of a field of a protocol
abbrev pub field_at : List ProtocolLabels → ℕ → ℕ → Option FieldNaming
field_at labels protocol number = slice_get (fields_at (slice_get labels protocol)) number

-- the label of a block of a protocol
abbrev pub block_at : List ProtocolLabels → ℕ → ℕ → Option BlockNaming
block_at labels protocol number = slice_get (blocks_at (slice_get labels protocol)) number

abbrev pub line_in : Option ProtocolLabels → List ℕ
line_in None = begun (codes "<proto") [] None
line_in (Some l) = l.line

-- how the line of a protocol begins; what isn't declared has no name
abbrev pub line_at : List ProtocolLabels → ℕ → List ℕ
line_at labels protocol = line_in (slice_get labels protocol)

-- ---- how a field is shown

abbrev pub template_at : List ShowTemplate → Option ℕ → Option ShowTemplate
template_at templates None = None
template_at templates (Some n) = slice_get templates n

-- the template by which a field is shown
abbrev pub template_of : Database → Option FieldNaming → Option ShowTemplate
template_of db None = None
template_of db (Some label) = template_at db.show_templates label.template

-- the value of a field of this label
abbrev pub field_shown : Database → Option FieldNaming → List ℕ → List ℕ
field_shown db label value = shown (template_of db label) value
