-- What an output of packets is, by its role: its opening, the text of each packet, in order, and its closing. A packet is
-- decoded from the session that the one before it left, and the first from that of the database. The trace has a line for
-- the packet of each number, which says how it was decoded.
use Rattle.std.specs.Prelude.{ℕ, zero, suc, List, [], ◌++◌, length, Option, Some, None, slice_get}
use Rattle.db_model.specs.declared.database.Database.{Database}
use Rattle.db_model.specs.declared.packet.Packet.{Packet}
use Rattle.db_model.specs.declared.tree.Proto.{Proto}
use Rattle.db_model.specs.Serial.{tree}
use Rattle.db_model.specs.Session.{declared}
use Rattle.pdml_out.specs.Pdml as pdml
use Rattle.psml_out.specs.Psml as psml
use Rattle.pipeline.specs.declared.status.Role.{Role}
use Rattle.pipeline.specs.declared.status.Role.TheVariants.{Pdml, Psml, Trace}

-- the trace has nothing round its lines; the inputs, and the output of a command's line, have no packets
abbrev pub opening : Role → Database → List ℕ
opening Pdml db = pdml.opening
opening Psml db = psml.opening db
opening other db = []

abbrev pub packet_text : Role → Database → (ℕ → List ℕ) → Packet → List Proto → List ℕ
packet_text Pdml db lines packet protos = pdml.packet_text db packet protos
packet_text Psml db lines packet protos = psml.packet_text db packet protos
packet_text Trace db lines packet protos = lines packet.number
packet_text other db lines packet protos = []

abbrev pub closing : Role → List ℕ
closing Pdml = pdml.closing
closing Psml = psml.closing
closing other = []

-- the text of a packet that stands at a place, with its tree
abbrev pub text_of : Role → Database → (ℕ → List ℕ) → Option Packet → List Proto → List ℕ
text_of role db lines None protos = []
text_of role db lines (Some packet) protos = packet_text role db lines packet protos

-- the texts of the first k packets
abbrev pub texts : Role → Database → (ℕ → List ℕ) → List Packet → ℕ → List ℕ
texts role db lines packets zero = []
texts role db lines packets (suc k) = texts role db lines packets k ++ text_of role db lines (slice_get packets k) (tree db (declared db) packets k)

-- the opening and these packets
unfoldable pub open_text : Role → Database → (ℕ → List ℕ) → List Packet → List ℕ
open_text role db lines packets = opening role db ++ texts role db lines packets (length packets)

-- the same, and the closing
unfoldable pub whole_text : Role → Database → (ℕ → List ℕ) → List Packet → List ℕ
whole_text role db lines packets = open_text role db lines packets ++ closing role

-- ---- the same of all outputs: each by its role

abbrev pub openings : Database → Role → List ℕ
openings db role = opening role db

abbrev pub open_texts : Database → (ℕ → List ℕ) → List Packet → Role → List ℕ
open_texts db lines packets role = open_text role db lines packets

abbrev pub whole_texts : Database → (ℕ → List ℕ) → List Packet → Role → List ℕ
whole_texts db lines packets role = whole_text role db lines packets

-- nothing in any output
abbrev pub no_texts : Role → List ℕ
no_texts role = []
