-- Packets that are settled one after another, each from the session that the one before it left.
use Rattle.std.specs.Prelude.{◌≡◌, ℕ, List, [], ◌∷◌, ◌++◌, None}
use Rattle.std.specs.List.{flat_map}
use Rattle.db_model.specs.declared.database.Database.{Database}
use Rattle.db_model.specs.declared.packet.Packet.{Packet}
use Rattle.db_model.specs.declared.tree.Proto.{Proto}
use Rattle.db_model.specs.Decoding.{dec}
use Rattle.db_model.specs.Session.{Session}
use Rattle.engine.specs.declared.ready.Ready.{Ready}
use Rattle.engine.specs.declared.receipt.Outcome.TheVariants.{Direct}
use Rattle.engine.specs.declared.receipt.Receipt.{Receipt}
use Rattle.engine.specs.declared.receipt.Why.TheVariants.{Serial}
use Rattle.engine.specs.declared.texts.Wanted.{Wanted}
use Rattle.engine.specs.Texts.{HasTexts, text_if}
use Rattle.engine.specs.Trace.{trace_line}
use Rattle.pdml_out.specs.Pdml
use Rattle.psml_out.specs.Psml

-- the receipt of a packet that was decoded without workers, and so not taken before
abbrev pub serial_receipt : ℕ → Receipt
serial_receipt number = record { number = number; taken = None; outcome = Direct Serial }

-- the session that these packets leave
abbrev pub session_after : Database → Session → List Packet → Session
session_after db s [] = s
session_after db s (packet ∷ packets) = session_after db (dec db packet s).session packets

-- a packet with its tree is settled so: its wanted texts, and a receipt that says that it was decoded without workers
pub record IsSettled (wanted : Wanted) (db : Database) (packet : Packet) (tree : List Proto) (ready : Ready) : Type 0 where
  pub texts : HasTexts wanted ready.texts db packet tree
  pub receipt : ready.receipt ≡ serial_receipt packet.number

-- these packets are settled so, one after another from a session on
abbrev pub Settles : Wanted → Database → Session → List Packet → List Ready → Type 0
Settles wanted db s [] [] = Unit {0}
Settles wanted db s (packet ∷ packets) (one ∷ others) =
    IsSettled wanted db packet (dec db packet s).result one × Settles wanted db (dec db packet s).session packets others
Settles wanted db s packets ready = ⊥

-- ---- the texts

-- the texts of packets, one behind the other, where each is decoded from the session that the one before it left
abbrev pub texts_of : (Packet → List Proto → List ℕ) → Database → Session → List Packet → List ℕ
texts_of text db s [] = []
texts_of text db s (packet ∷ packets) = text packet (dec db packet s).result ++ texts_of text db (dec db packet s).session packets

-- the line of a packet in a trace, where it was decoded without workers
abbrev pub serial_line : Packet → List Proto → List ℕ
serial_line packet tree = trace_line (serial_receipt packet.number)

-- what was settled, one behind the other
abbrev pub ready_pdml : List Ready → List ℕ
ready_pdml ready = flat_map (λ one. one.texts.pdml.items) ready

abbrev pub ready_psml : List Ready → List ℕ
ready_psml ready = flat_map (λ one. one.texts.psml.items) ready

abbrev pub ready_trace : List Ready → List ℕ
ready_trace ready = flat_map (λ one. trace_line one.receipt) ready

-- they are the texts of these packets, as far as they are wanted, and their lines
pub record HaveTexts (wanted : Wanted) (db : Database) (s : Session) (packets : List Packet) (ready : List Ready) : Type 0 where
  pub pdml : ready_pdml ready ≡ text_if wanted.pdml (texts_of (Pdml.packet_text db) db s packets)
  pub psml : ready_psml ready ≡ text_if wanted.psml (texts_of (Psml.packet_text db) db s packets)
  pub trace : ready_trace ready ≡ texts_of serial_line db s packets
