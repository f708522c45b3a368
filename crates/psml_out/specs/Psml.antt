-- The PSML text of packets with their trees. Each line ends with LF.
use Rattle.std.specs.Prelude.{ℕ, ◌==◌, if◌then◌else◌, List, [], ◌++◌, map, length, codes, decimal, Option, Some, None}
use Rattle.std.specs.List.{flat_map, range_with_len}
use Rattle.db_model.specs.declared.database.Database.{Database}
use Rattle.db_model.specs.declared.database.HeaderPart.{HeaderPart}
use Rattle.db_model.specs.declared.database.HeaderPart.TheVariants as header
use Rattle.db_model.specs.declared.database.SectionDecl.{SectionDecl}
use Rattle.db_model.specs.declared.packet.Packet.{Packet}
use Rattle.db_model.specs.declared.tree.Proto.{Proto}
use Rattle.db_model.specs.Names.{Text}
use Rattle.psml_out.specs.declared.summaries.Content.{Content}
use Rattle.psml_out.specs.declared.summaries.Content.TheVariants as content
use Rattle.psml_out.specs.declared.summaries.Piece.{Piece}
use Rattle.psml_out.specs.Fields.{Field, last_field}
use Rattle.psml_out.specs.Summaries.{sections, pieces_of}
use Rattle.show.specs.Labels.{field_at, field_shown, labels_of}
use Rattle.show.specs.Markup.{escaped}
use Rattle.show.specs.Stamps.{timestamp}

-- ---- what a piece adds

-- a part of a packet's header: its number, its moment, or its captured length
abbrev pub header_part : Packet → HeaderPart → List ℕ
header_part packet header.Num = decimal packet.number
header_part packet header.Timestamp = timestamp packet.stamp
header_part packet header.Len = decimal (length packet.bytes)

-- a field of the protocol of a number as it is shown, nothing where there is none
abbrev pub shown_field : Database → ℕ → Option Field → List ℕ
shown_field db protocol None = []
shown_field db protocol (Some f) = field_shown db (field_at (labels_of db) protocol f.0) f.1

-- the last field of a name in a protocol of the tree
abbrev pub last_shown : Database → Proto → Text → List ℕ
last_shown db p name = shown_field db p.number (last_field (labels_of db) p.number name p.nodes)

abbrev pub content_text : Database → Packet → Proto → Content → List ℕ
content_text db packet p (content.Text value) = value
content_text db packet p (content.Field name) = last_shown db p name
content_text db packet p (content.Header part) = header_part packet part

-- ---- the texts of the sections

-- what a piece of a protocol of the tree adds to the text of the section of a number
unfoldable pub piece_text : Database → Packet → ℕ → Proto → Piece → List ℕ
piece_text db packet section p piece = if piece.section == section then content_text db packet p piece.content else []

-- what the summary of a protocol of the tree adds to it
unfoldable pub proto_text : Database → Packet → ℕ → Proto → List ℕ
proto_text db packet section p = flat_map (piece_text db packet section p) (pieces_of db p.number)

-- the text of the section of a number: what the protocols of the tree add, one behind another
unfoldable pub section_text : Database → Packet → List Proto → ℕ → List ℕ
section_text db packet tree section = flat_map (proto_text db packet section) tree

abbrev pub section_texts : Database → Packet → List Proto → List (List ℕ)
section_texts db packet tree = map (section_text db packet tree) (range_with_len 0 (length (sections db)))

-- ---- the lines

-- a text or a name of a section
unfoldable pub section_line : List ℕ → List ℕ
section_line text = codes "<section>" ++ (escaped text ++ codes "</section>\n")

abbrev pub name_line : SectionDecl → List ℕ
name_line d = section_line d.name

-- a packet with its tree
unfoldable pub packet_text : Database → Packet → List Proto → List ℕ
packet_text db packet tree = codes "<packet>\n" ++ (flat_map section_line (section_texts db packet tree) ++ codes "</packet>\n")

-- what stands before the packets, and what behind them
unfoldable pub opening : Database → List ℕ
opening db =
    codes "<?xml version=\"1.0\"?>\n<psml version=\"0\" creator=\"npd\">\n<structure>\n"
    ++ (flat_map name_line (sections db) ++ codes "</structure>\n")

abbrev pub closing : List ℕ
closing = codes "</psml>\n"
