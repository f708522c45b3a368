-- What a record of a packet is.
use Rattle.std.specs.Prelude.{◌≡◌}
use Rattle.db_model.specs.declared.database.Database.{Database}
use Rattle.db_model.specs.declared.packet.Packet.{Packet}
use Rattle.db_model.specs.Decoding.{dec}
use Rattle.db_model.specs.Session.{Session}
use Rattle.op_log.specs.declared.transcript.Record.{Record}

-- tree and log are those of the packet's decoding from this session
pub record IsRecord (db : Database) (p : Packet) (s : Session) (r : Record) : Type 0 where
  pub tree : r.tree ≡ (dec db p s).result
  pub log : r.log ≡ (dec db p s).log
