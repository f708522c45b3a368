-- What a database says of its summaries: the sections, and for each sum template what it adds to the texts of which sections.
use Rattle.std.specs.Prelude.{ℕ, ◌==◌, if◌then◌else◌, List, [], ◌∷◌, ◌++◌, length, map, slice_get, unwrap_or, Option, Some, None}
use Rattle.std.specs.List.{range_with_len}
use Rattle.std.specs.Option.{option_flatten, option_map}
use Rattle.db_model.specs.declared.database.Database.{Database}
use Rattle.db_model.specs.declared.database.SectionDecl.{SectionDecl}
use Rattle.db_model.specs.declared.database.SumItem.{SumItem}
use Rattle.db_model.specs.declared.database.SumItem.TheVariants as item
use Rattle.db_model.specs.declared.database.SumStruct.{SumStruct}
use Rattle.db_model.specs.declared.database.SumTemplate.{SumTemplate}
use Rattle.db_model.specs.Names.{Text, place}
use Rattle.psml_out.specs.declared.summaries.Content.{Content}
use Rattle.psml_out.specs.declared.summaries.Content.TheVariants as content
use Rattle.psml_out.specs.declared.summaries.Piece.{Piece}
use Rattle.psml_out.specs.declared.summaries.Summaries.{Summaries}

-- ---- the sections

-- the declared sections, by their numbers
abbrev pub sections_in : Option SumStruct → List SectionDecl
sections_in None = []
sections_in (Some s) = s.sections

abbrev pub sections : Database → List SectionDecl
sections db = sections_in db.sum_struct

-- the number of the first section of a name
abbrev pub section_at : List SectionDecl → Text → ℕ
section_at declared name = place name (map (λ d. d.name) declared)

-- ---- the pieces

abbrev pub piece : ℕ → Content → Piece
piece section content = record { section = section; content = content }

-- what an item adds to the current section: a section adds nothing, each other item one piece
abbrev pub item_pieces : ℕ → SumItem → List Piece
item_pieces current (item.Section line name) = []
item_pieces current (item.Text line value) = piece current (content.Text value) ∷ []
item_pieces current (item.ProtoField line name) = piece current (content.Field name) ∷ []
item_pieces current (item.PacketHdr line part) = piece current (content.Header part) ∷ []

-- the section that is the current one behind an item
abbrev pub section_behind : List SectionDecl → ℕ → SumItem → ℕ
section_behind declared current (item.Section line name) = section_at declared name
section_behind declared current other = current

-- the pieces of items before which a section is the current one
abbrev pub pieces : List SectionDecl → ℕ → List SumItem → List Piece
pieces declared current [] = []
pieces declared current (i ∷ items) = item_pieces current i ++ pieces declared (section_behind declared current i) items

-- those of a template: at its start the first section is the current one
abbrev pub template_pieces : List SectionDecl → SumTemplate → List Piece
template_pieces declared t = pieces declared 0 t.items

-- ---- the templates of the protocols

-- the place of the first sum template of a name
abbrev pub template_place : List SumTemplate → Text → ℕ
template_place templates name = place name (map (λ t. t.name) templates)

-- the place of the sum template of each protocol, where it has one
abbrev pub template_places : Database → List (Option ℕ)
template_places db = map (λ p. option_map (template_place db.sum_templates) p.showsum) db.protocols

abbrev pub pieces_at : List (List Piece) → Option ℕ → List Piece
pieces_at templates None = []
pieces_at templates (Some place) = unwrap_or (slice_get templates place) []

-- the pieces of the protocol of a number, none where it has no sum template
abbrev pub pieces_of : Database → ℕ → List Piece
pieces_of db number = pieces_at (map (template_pieces (sections db)) db.sum_templates) (option_flatten (slice_get (template_places db) number))

-- ---- the pieces by section

-- what pieces add to the section of a number, in their order
abbrev pub contents_for : ℕ → List Piece → List Content
contents_for section [] = []
contents_for section (p ∷ ps) = if p.section == section then p.content ∷ contents_for section ps else contents_for section ps

-- what pieces add to each of so many sections
abbrev pub by_section : ℕ → List Piece → List (List Content)
by_section count ps = map (λ section. contents_for section ps) (range_with_len 0 count)

abbrev pub template_sections : List SectionDecl → SumTemplate → List (List Content)
template_sections declared t = by_section (length declared) (template_pieces declared t)

unfoldable pub summaries_of : Database → Summaries
summaries_of db = record { templates = map (template_sections (sections db)) db.sum_templates; protocols = template_places db }

abbrev pub sections_at : List (List (List Content)) → Option ℕ → List (List Content)
sections_at templates None = []
sections_at templates (Some place) = unwrap_or (slice_get templates place) []

-- what the protocol of a number adds to the section of a number
abbrev pub contents_of : Summaries → ℕ → ℕ → List Content
contents_of summaries number section = unwrap_or (slice_get (sections_at summaries.templates (option_flatten (slice_get summaries.protocols number))) section) []
