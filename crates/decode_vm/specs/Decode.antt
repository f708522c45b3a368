-- What a call says that decodes a packet.
use Rattle.std.specs.Prelude.{◌≡◌, List, ◌++◌, Option, Result, Ok, Err}
use Rattle.db_model.specs.declared.database.Database.{Database}
use Rattle.db_model.specs.declared.no_memory.NoMemory.{NoMemory}
use Rattle.db_model.specs.declared.packet.Packet.{Packet}
use Rattle.db_model.specs.declared.tree.Proto.{Proto}
use Rattle.db_model.specs.Decoding.{dec}
use Rattle.db_model.specs.Over.{Follows, extended}
use Rattle.db_model.specs.Questions.{Log}
use Rattle.db_model.specs.Session.{Session}

-- a whole decoding: the tree of the definition, its session, and a told list that grew by its log
pub record Decoded (db : Database) (p : Packet) (protos : List Proto) (s : Session) (l : Option Log) (s' : Session) (l' : Option Log) : Type 0 where
  pub tree : protos ≡ (dec db p s).result
  pub session : s' ≡ (dec db p s).session
  pub told : l' ≡ extended l (dec db p s).log

-- one that was refused memory: the session after some first pairs of its log, by which a told list grew
pub record Broken (db : Database) (p : Packet) (s : Session) (l : Option Log) (s' : Session) (l' : Option Log) : Type 0 where
  pub done : Log
  pub rest : Log
  pub is_prefix : (dec db p s).log ≡ done ++ rest
  pub follows : Follows db p.stamp done s l s' l'

abbrev pub Decodes : Database → Packet → Result (List Proto) NoMemory → Session → Option Log → Session → Option Log → Type 0
Decodes db p (Ok protos) s l s' l' = Decoded db p protos s l s' l'
Decodes db p (Err e) s l s' l' = Broken db p s l s' l'
