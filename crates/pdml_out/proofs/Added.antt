-- What the pieces of a line come to, added one behind another.
use Rattle.std.specs.Prelude.{◌≡◌, ℕ, List, [], ◌++◌, codes, decimal, slice_get, Option, Some, None}
use Rattle.std.specs.Option.{option_map}
use Rattle.std.proofs.Common.{refl, ap, ◌∙◌, append_assoc}
use Rattle.std.proofs.lemmas.Option.{slice_get-map}
use Rattle.hex.specs.Hex.{encode_lower}
use Rattle.db_model.specs.declared.database.Database.{Database}
use Rattle.db_model.specs.declared.database.Protocol.{Protocol}
use Rattle.db_model.specs.declared.database.ShowTemplate.{ShowTemplate}
use Rattle.db_model.specs.declared.tree.Node.{Node}
use Rattle.db_model.specs.declared.tree.Proto.{Proto}
use Rattle.db_model.specs.Names.{Text}
use Rattle.show.specs.declared.naming.BlockNaming.{BlockNaming}
use Rattle.show.specs.declared.naming.FieldNaming.{FieldNaming}
use Rattle.show.specs.declared.labels.ProtocolLabels.{ProtocolLabels}
use Rattle.show.specs.Labels.{field_shown, labels_of, labels_of_protocol, line_at, line_in}
use Rattle.show.specs.Markup.{escaped}
use Rattle.show.specs.Naming.{begun, named}
use Rattle.pdml_out.specs.Pdml.{placed, valued, numbers, field_line, block_line, field_begun, field_named, field_text, block_begun, block_named, nodes_text, proto_lines, protocol_named, protocol_text}
use Rattle.pdml_out.proofs.Chains.{onto}

-- the signs between two parts of a line, given once or with the part before them
field_parts : (f n p a s b q v h w e z : List ℕ) → (f ++ (n ++ p)) ++ ((a ++ (s ++ (b ++ (q ++ v)))) ++ ((h ++ ((q ++ w) ++ e)) ++ z)) ≡ f ++ (n ++ (((p ++ (a ++ (s ++ (b ++ q)))) ++ (v ++ (h ++ q))) ++ (w ++ (e ++ z))))
field_parts f n p a s b q v h w e z = simp append_assoc

block_parts : (f n p a s b q v : List ℕ) → (f ++ (n ++ p)) ++ (a ++ (s ++ (b ++ (q ++ v)))) ≡ f ++ (n ++ ((p ++ (a ++ (s ++ (b ++ q)))) ++ v))
block_parts f n p a s b q v = simp append_assoc

protocol_parts : (f n p a s b q v m z : List ℕ) → ((f ++ (n ++ p)) ++ (a ++ (s ++ (b ++ (q ++ v))))) ++ (m ++ z) ≡ f ++ (n ++ ((p ++ (a ++ (s ++ (b ++ q)))) ++ (v ++ (m ++ z))))
protocol_parts f n p a s b q v m z = simp append_assoc

-- the text of a field's value, twice
abbrev pub twice : List ℕ → List ℕ → List ℕ
twice value show = encode_lower value ++ (codes "\" show=\"" ++ escaped show)

field_is : (name : Text) (longname : Option (List ℕ)) (pos size : ℕ) (value show : List ℕ) → begun (codes "<field") name longname ++ (numbers pos size (codes "\" value=\"") ++ (twice value show ++ codes "\"/>\n")) ≡ field_line (named name longname) pos size value show
unfolding begun numbers field_line valued placed
field_is name longname pos size value show =
    field_parts (codes "<field") (named name longname) (codes " pos=\"") (decimal pos) (codes "\" size=\"") (decimal size) (codes "\"") (codes " value=\"") (encode_lower value) (codes " show=\"") (escaped show) (codes "\"/>\n")

block_is : (name : Text) (longname : Option (List ℕ)) (pos size : ℕ) → begun (codes "<block") name longname ++ numbers pos size (codes "\">\n") ≡ block_line (named name longname) pos size
unfolding begun numbers block_line placed
block_is name longname pos size =
    block_parts (codes "<block") (named name longname) (codes " pos=\"") (decimal pos) (codes "\" size=\"") (decimal size) (codes "\"") (codes ">\n")

-- the line of a field of any name
pub line_added : (name : Text) (longname : Option (List ℕ)) (pos size : ℕ) (value show t0 t1 t2 t3 : List ℕ) → t1 ≡ t0 ++ begun (codes "<field") name longname → t2 ≡ t1 ++ numbers pos size (codes "\" value=\"") → t3 ≡ t2 ++ twice value show → t3 ++ codes "\"/>\n" ≡ t0 ++ field_line (named name longname) pos size value show
line_added name longname pos size value show t0 t1 t2 t3 e f g =
    let rest : List ℕ = twice value show ++ codes "\"/>\n" in
    onto t2 (twice value show) t3 (codes "\"/>\n") g
    ∙ onto t1 (numbers pos size (codes "\" value=\"")) t2 rest f
    ∙ onto t0 (begun (codes "<field") name longname) t1 (numbers pos size (codes "\" value=\"") ++ rest) e
    ∙ ap (λ (l : List ℕ). t0 ++ l) (field_is name longname pos size value show)

-- that of a field of a declared protocol
pub field_added : (db : Database) (label : Option FieldNaming) (pos size : ℕ) (value t0 t1 t2 t3 : List ℕ) → t1 ≡ t0 ++ field_begun label → t2 ≡ t1 ++ numbers pos size (codes "\" value=\"") → t3 ≡ t2 ++ twice value (field_shown db label value) → t3 ++ codes "\"/>\n" ≡ t0 ++ field_text db label pos size value
field_added db None pos size value t0 t1 t2 t3 e f g = line_added [] None pos size value (field_shown db None value) t0 t1 t2 t3 e f g
field_added db (Some label) pos size value t0 t1 t2 t3 e f g = line_added label.name label.longname pos size value (field_shown db (Some label) value) t0 t1 t2 t3 e f g

block_begins : (label : Option BlockNaming) (pos size : ℕ) → block_begun label ++ numbers pos size (codes "\">\n") ≡ block_line (block_named label) pos size
block_begins None pos size = block_is [] None pos size
block_begins (Some label) pos size = block_is label.name label.longname pos size

-- the line of a block
pub block_added : (label : Option BlockNaming) (pos size : ℕ) (t0 t1 t2 : List ℕ) → t1 ≡ t0 ++ block_begun label → t2 ≡ t1 ++ numbers pos size (codes "\">\n") → t2 ≡ t0 ++ block_line (block_named label) pos size
block_added label pos size t0 t1 t2 e f =
    f ∙ onto t0 (block_begun label) t1 (numbers pos size (codes "\">\n")) e ∙ ap (λ (l : List ℕ). t0 ++ l) (block_begins label pos size)

-- the lines of a protocol of any name
protocol_is : (name : Text) (longname : Option (List ℕ)) (pos size : ℕ) (nodes : List ℕ) → (begun (codes "<proto") name longname ++ numbers pos size (codes "\">\n")) ++ (nodes ++ codes "</proto>\n") ≡ proto_lines (named name longname) pos size nodes
unfolding begun numbers proto_lines placed
protocol_is name longname pos size nodes =
    protocol_parts (codes "<proto") (named name longname) (codes " pos=\"") (decimal pos) (codes "\" size=\"") (decimal size) (codes "\"") (codes ">\n") nodes (codes "</proto>\n")

pub protocol_added : (name : Text) (longname : Option (List ℕ)) (pos size : ℕ) (nodes t0 t1 t2 : List ℕ) → t1 ≡ t0 ++ (begun (codes "<proto") name longname ++ numbers pos size (codes "\">\n")) → t2 ≡ t1 ++ nodes → t2 ++ codes "</proto>\n" ≡ t0 ++ proto_lines (named name longname) pos size nodes
protocol_added name longname pos size nodes t0 t1 t2 e f =
    onto t1 nodes t2 (codes "</proto>\n") f
    ∙ onto t0 (begun (codes "<proto") name longname ++ numbers pos size (codes "\">\n")) t1 (nodes ++ codes "</proto>\n") e
    ∙ ap (λ (l : List ℕ). t0 ++ l) (protocol_is name longname pos size nodes)

-- those of a protocol that was found by its number
unfoldable pub line_of : Option Protocol → List ℕ
line_of None = begun (codes "<proto") [] None
line_of (Some p) = begun (codes "<proto") p.name p.longname

line_mapped : (ts : List ShowTemplate) (o : Option Protocol) → line_in (option_map (labels_of_protocol ts) o) ≡ line_of o
unfolding labels_of_protocol line_of
line_mapped ts None = refl
line_mapped ts (Some p) = refl

line_found : (db : Database) (number : ℕ) → line_at (labels_of db) number ≡ line_of (slice_get db.protocols number)
unfolding labels_of
line_found db number = ap line_in (slice_get-map (labels_of_protocol db.show_templates) db.protocols number) ∙ line_mapped db.show_templates (slice_get db.protocols number)

of_option : (o : Option Protocol) (pos size : ℕ) (nodes t0 t1 t2 : List ℕ) → t1 ≡ t0 ++ (line_of o ++ numbers pos size (codes "\">\n")) → t2 ≡ t1 ++ nodes → t2 ++ codes "</proto>\n" ≡ t0 ++ proto_lines (protocol_named o) pos size nodes
unfolding line_of
of_option None pos size nodes t0 t1 t2 e f = protocol_added [] None pos size nodes t0 t1 t2 e f
of_option (Some p) pos size nodes t0 t1 t2 e f = protocol_added p.name p.longname pos size nodes t0 t1 t2 e f

pub protocol_found : (db : Database) (labels : List ProtocolLabels) (line : List ℕ) (p : Proto) (nodes : List Node) (t0 t1 t2 : List ℕ) → labels ≡ labels_of db → line ≡ line_at labels p.number → nodes ≡ p.nodes → t1 ≡ t0 ++ (line ++ numbers p.pos p.size (codes "\">\n")) → t2 ≡ t1 ++ nodes_text db p.number nodes → t2 ++ codes "</proto>\n" ≡ t0 ++ protocol_text db p
protocol_found db labels line p nodes t0 t1 t2 own is same e f =
    let found : line ≡ line_of (slice_get db.protocols p.number) = is ∙ ap (λ (ls : List ProtocolLabels). line_at ls p.number) own ∙ line_found db p.number in
    of_option (slice_get db.protocols p.number) p.pos p.size (nodes_text db p.number p.nodes) t0 t1 t2
    (e ∙ ap (λ (l : List ℕ). t0 ++ (l ++ numbers p.pos p.size (codes "\">\n"))) found)
    (f ∙ ap (λ (ns : List Node). t1 ++ nodes_text db p.number ns) same)
