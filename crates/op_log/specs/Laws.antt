-- The laws of records, for the layer that keeps some and decodes others again.
use Rattle.std.specs.Prelude.{◌≡◌}
use Rattle.db_model.specs.declared.database.Database.{Database}
use Rattle.db_model.specs.declared.packet.Packet.{Packet}
use Rattle.db_model.specs.Decoding.{dec}
use Rattle.db_model.specs.Replay.{after, Agrees}
use Rattle.db_model.specs.Session.{Session}
use Rattle.op_log.specs.declared.transcript.Record.{Record}
use Rattle.op_log.specs.Recorded.{IsRecord}

-- a record from a view whose log agrees with a session at the packet's stamp is the decoding of that packet from that session, tree and log, and applying it leaves the session of that decoding
abbrev pub AgreeingRecord : Type 0
AgreeingRecord = (db : Database) (p : Packet) (view s : Session) (r : Record) → IsRecord db p view r → Agrees db p.stamp r.log s → IsRecord db p s r × (after db p.stamp r.log s ≡ (dec db p s).session)

-- a record agrees with the session from which it was decoded, and applying it there leaves the session of its decoding
abbrev pub OwnRecord : Type 0
OwnRecord = (db : Database) (p : Packet) (s : Session) (r : Record) → IsRecord db p s r → Agrees db p.stamp r.log s × (after db p.stamp r.log s ≡ (dec db p s).session)
