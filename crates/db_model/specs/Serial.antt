-- Packets decoded one by one in order: each from the session that the one before it left.
use Rattle.std.specs.Prelude.{ℕ, zero, suc, List, [], Option, Some, None, slice_get}
use Rattle.db_model.specs.declared.database.Database.{Database}
use Rattle.db_model.specs.declared.packet.Packet.{Packet}
use Rattle.db_model.specs.declared.tree.Proto.{Proto}
use Rattle.db_model.specs.Decoding.{dec}
use Rattle.db_model.specs.Questions.{Played, Log}
use Rattle.db_model.specs.Session.{Session}

-- the decoding of a packet; past the last one nothing is decoded
abbrev pub decoded : Database → Option Packet → Session → Played (List Proto)
decoded db None s = record { result = []; session = s; log = [] }
decoded db (Some p) s = dec db p s

-- the session after the first k packets, from the session s
abbrev pub state : Database → Session → List Packet → ℕ → Session
state db s ps zero = s
state db s ps (suc k) = (decoded db (slice_get ps k) (state db s ps k)).session

-- the decoding of the packet at place k
abbrev pub decoded_at : Database → Session → List Packet → ℕ → Played (List Proto)
decoded_at db s ps k = decoded db (slice_get ps k) (state db s ps k)

abbrev pub tree : Database → Session → List Packet → ℕ → List Proto
tree db s ps k = (decoded_at db s ps k).result

abbrev pub log : Database → Session → List Packet → ℕ → Log
log db s ps k = (decoded_at db s ps k).log
