-- The laws of receipts and of packets that are settled.
use Rattle.std.specs.Prelude.{◌≡◌, ℕ, List, ◌++◌, codes, decimal}
use Rattle.db_model.specs.declared.database.Database.{Database}
use Rattle.db_model.specs.declared.packet.Packet.{Packet}
use Rattle.db_model.specs.declared.tree.Proto.{Proto}
use Rattle.db_model.specs.Session.{Session}
use Rattle.engine.specs.declared.ready.Ready.{Ready}
use Rattle.engine.specs.declared.texts.Wanted.{Wanted}
use Rattle.engine.specs.Ready.{serial_receipt, session_after, Settles, texts_of, HaveTexts}
use Rattle.engine.specs.Trace.{trace_line}

-- the line of a packet that was decoded without workers, and so not taken before
abbrev pub DirectLine : Type 0
DirectLine = (number : ℕ) → trace_line (serial_receipt number) ≡ decimal number ++ codes " - - direct\n"

-- the texts of packets that were settled are those of decoding them one after another
abbrev pub SettledTexts : Type 0
SettledTexts = (wanted : Wanted) (db : Database) (s : Session) (packets : List Packet) (ready : List Ready) → Settles wanted db s packets ready → HaveTexts wanted db s packets ready

-- more packets go on from the session that the first ones left
pub record InParts : Type 0 where
  pub session : (db : Database) (s : Session) (first more : List Packet) → session_after db s (first ++ more) ≡ session_after db (session_after db s first) more
  pub texts : (text : Packet → List Proto → List ℕ) (db : Database) (s : Session) (first more : List Packet)
      → texts_of text db s (first ++ more) ≡ texts_of text db s first ++ texts_of text db (session_after db s first) more
  pub settled : (wanted : Wanted) (db : Database) (s : Session) (first more : List Packet) (ready others : List Ready)
      → Settles wanted db s first ready → Settles wanted db (session_after db s first) more others → Settles wanted db s (first ++ more) (ready ++ others)
