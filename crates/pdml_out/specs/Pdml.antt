-- The PDML text of packets with their trees. Each line ends with LF.
use Rattle.std.specs.Prelude.{ℕ, ◌==◌, if◌then◌else◌, List, [], ◌∷◌, ◌++◌, map, length, slice_get, codes, decimal, Option, Some, None}
use Rattle.std.specs.List.{flat_map}
use Rattle.hex.specs.Hex.{encode_lower}
use Rattle.db_model.specs.declared.database.Database.{Database}
use Rattle.db_model.specs.declared.database.Protocol.{Protocol}
use Rattle.db_model.specs.declared.database.ShowType.TheVariants.{Ascii}
use Rattle.db_model.specs.declared.limits.TheConstants.{PAYLOAD}
use Rattle.db_model.specs.declared.packet.Packet.{Packet}
use Rattle.db_model.specs.declared.tree.Node.{Node, Node-F}
use Rattle.db_model.specs.declared.tree.Node.TheOpen as layer
use Rattle.db_model.specs.declared.tree.Node.TheVariants as node
use Rattle.db_model.specs.declared.tree.Proto.{Proto}
use Rattle.db_model.specs.declared.tree.Reason.{Reason}
use Rattle.db_model.specs.Names.{Text}
use Rattle.db_model.specs.Reason.{reason_word}
use Rattle.show.specs.declared.labels.ProtocolLabels.{ProtocolLabels}
use Rattle.show.specs.declared.naming.BlockNaming.{BlockNaming}
use Rattle.show.specs.declared.naming.FieldNaming.{FieldNaming}
use Rattle.show.specs.Labels.{field_at, block_at, field_shown, labels_of}
use Rattle.show.specs.Markup.{escaped}
use Rattle.show.specs.Naming.{begun, named}
use Rattle.show.specs.NodeFold.{fold_node}
use Rattle.show.specs.Shown.{group_shown}
use Rattle.show.specs.Stamps.{timestamp}

-- ---- the lines

-- the position and the size of something
unfoldable pub placed : ℕ → ℕ → List ℕ
placed pos size = codes " pos=\"" ++ (decimal pos ++ (codes "\" size=\"" ++ (decimal size ++ codes "\"")))

-- the same with a value in hex
unfoldable pub valued : ℕ → ℕ → List ℕ → List ℕ
valued pos size value = placed pos size ++ (codes " value=\"" ++ (encode_lower value ++ codes "\""))

-- the numbers of a line that has begun with its tag and its name, and what stands behind them
unfoldable pub numbers : ℕ → ℕ → List ℕ → List ℕ
numbers pos size behind = decimal pos ++ (codes "\" size=\"" ++ (decimal size ++ behind))

-- a field with a value that is shown as a text
unfoldable pub field_line : List ℕ → ℕ → ℕ → List ℕ → List ℕ → List ℕ
field_line naming pos size value show =
    codes "<field" ++ (naming ++ (valued pos size value ++ (codes " show=\"" ++ (escaped show ++ codes "\"/>\n"))))

-- the line that opens a block
unfoldable pub block_line : List ℕ → ℕ → ℕ → List ℕ
block_line naming pos size = codes "<block" ++ (naming ++ (placed pos size ++ codes ">\n"))

-- a block with the lines of its nodes
abbrev pub block_lines : List ℕ → ℕ → ℕ → List ℕ → List ℕ
block_lines naming pos size nodes = block_line naming pos size ++ (nodes ++ codes "</block>\n")

-- a protocol with the lines of its nodes
unfoldable pub proto_lines : List ℕ → ℕ → ℕ → List ℕ → List ℕ
proto_lines naming pos size nodes = codes "<proto" ++ (naming ++ (placed pos size ++ (codes ">\n" ++ (nodes ++ codes "</proto>\n"))))

unfoldable pub note_line : Reason → ℕ → List ℕ
note_line reason pos = codes "<note reason=\"" ++ (reason_word reason ++ (codes "\" pos=\"" ++ (decimal pos ++ codes "\"/>\n")))

-- ---- what is declared has its name; nothing else has one

abbrev pub field_named : Option FieldNaming → List ℕ
field_named None = named [] None
field_named (Some label) = named label.name label.longname

abbrev pub block_named : Option BlockNaming → List ℕ
block_named None = named [] None
block_named (Some label) = named label.name label.longname

abbrev pub protocol_named : Option Protocol → List ℕ
protocol_named None = named [] None
protocol_named (Some p) = named p.name p.longname

-- how the line of a field begins, and that of a block
abbrev pub field_begun : Option FieldNaming → List ℕ
field_begun None = begun (codes "<field") [] None
field_begun (Some label) = begun (codes "<field") label.name label.longname

abbrev pub block_begun : Option BlockNaming → List ℕ
block_begun None = begun (codes "<block") [] None
block_begun (Some label) = begun (codes "<block") label.name label.longname

-- ---- the nodes of the protocol of a number

abbrev pub field_text : Database → Option FieldNaming → ℕ → ℕ → List ℕ → List ℕ
field_text db label pos size value = field_line (field_named label) pos size value (field_shown db label value)

-- the lines of a node, where those of a block's nodes stand between the block's own
abbrev pub node_step : Database → ℕ → Node-F (List ℕ) → List ℕ
node_step db protocol (layer.Field field pos size value) = field_text db (field_at (labels_of db) protocol field) pos size value
node_step db protocol (layer.Block block pos size nodes) = block_lines (block_named (block_at (labels_of db) protocol block)) pos size (flat_map (λ lines. lines) nodes)
node_step db protocol (layer.Note reason pos) = note_line reason pos

unfoldable pub node_text : Database → ℕ → Node → List ℕ
node_text db protocol = fold_node (List ℕ) (node_step db protocol)

abbrev pub nodes_text : Database → ℕ → List Node → List ℕ
nodes_text db protocol nodes = flat_map (node_text db protocol) nodes

-- ---- the protocols

-- a protocol of the database
abbrev pub protocol_text : Database → Proto → List ℕ
protocol_text db p = proto_lines (protocol_named (slice_get db.protocols p.number)) p.pos p.size (nodes_text db p.number p.nodes)

-- the bytes of the payload are a field that is shown as characters
abbrev pub payload_node_text : Node → List ℕ
payload_node_text (node.Field field pos size value) = field_line (named (codes "data") None) pos size value (group_shown Ascii value)
payload_node_text other = []

abbrev pub payload_text : Proto → List ℕ
payload_text p = proto_lines (named (codes "payload") None) p.pos p.size (flat_map payload_node_text p.nodes)

-- a protocol of the tree: one of the database, or the payload
unfoldable pub proto_text : Database → Proto → List ℕ
proto_text db p = if p.number == PAYLOAD then payload_text p else protocol_text db p

-- ---- the packet

-- its number, its captured and its original length, and its moment
unfoldable pub packet_line : Packet → List ℕ
packet_line packet =
    codes "<packet number=\"" ++ (decimal packet.number ++ (codes "\" caplen=\"" ++ (decimal (length packet.bytes)
    ++ (codes "\" length=\"" ++ (decimal packet.length ++ (codes "\" timestamp=\"" ++ (timestamp packet.stamp ++ codes "\">\n")))))))

-- a packet with its tree
unfoldable pub packet_text : Database → Packet → List Proto → List ℕ
packet_text db packet tree = packet_line packet ++ (flat_map (proto_text db) tree ++ codes "</packet>\n")

-- what stands before the packets, and what behind them
abbrev pub opening : List ℕ
opening = codes "<?xml version=\"1.0\"?>\n<pdml version=\"0\" creator=\"npd\">\n"

abbrev pub closing : List ℕ
closing = codes "</pdml>\n"
