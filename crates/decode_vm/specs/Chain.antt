-- What the engine makes of one protocol after another.
use Rattle.std.specs.Prelude.{◌≡◌, ℕ, suc, List, ◌∷◌, slice_get, Option, Some, None, Result, Ok, Err}
use Rattle.db_model.specs.declared.database.Database.{Database}
use Rattle.db_model.specs.declared.env.Frame.{Frame}
use Rattle.db_model.specs.declared.no_memory.NoMemory.{NoMemory}
use Rattle.db_model.specs.declared.tree.Proto.{Proto}
use Rattle.db_model.specs.Chain.{protocol_run, entered, chain, follow, ends, proto_from}
use Rattle.db_model.specs.Over.{point, Ends}
use Rattle.db_model.specs.Questions.{Gives, and_then, Log, Step}
use Rattle.db_model.specs.Runs.{Run}
use Rattle.db_model.specs.Session.{Session}
use Rattle.decode_vm.specs.declared.chain.Chained.{Chained}
use Rattle.decode_vm.specs.declared.list.Ended.{Ended}

-- a protocol from the position on
abbrev pub from_here : Database → ℕ → Run
from_here db q z = protocol_run db (slice_get db.protocols q) (entered z)

abbrev pub ProtocolEnds : Database → ℕ → Frame → Session → Option Log → Result Ended NoMemory → Session → Option Log → Type 0
ProtocolEnds db q z c l (Ok e) c' l' = Ends db z.env.packet.stamp (from_here db q) (point z c l) (Ok (e.way, e.nodes)) (point e.frame c' l')
ProtocolEnds db q z c l (Err e) c' l' = (y : Frame) → Ends db z.env.packet.stamp (from_here db q) (point z c l) (Err e) (point y c' l')

-- what follows a protocol that ended: none, or the next one, where so many may still be entered
abbrev pub Named : ℕ → Ended → Result (Option ℕ) NoMemory → Ended → Type 0
Named left e (Ok None) e' = (e'.frame ≡ e.frame) × ((go : ℕ → Step Frame (List Proto)) (q from : ℕ) → follow e.way left go q from e.nodes e.frame ≡ ends q from e'.nodes e.frame)
Named left e (Ok (Some r)) e' = (k : ℕ) × (left ≡ suc k) × (e' ≡ e) × ((go : ℕ → Step Frame (List Proto)) (q from : ℕ) → follow e.way (suc k) go q from e.nodes e.frame ≡ and_then (go r e.frame) (λ x. Gives (proto_from q from e.nodes e.frame ∷ x.0, x.1)))
Named left e (Err f) e' = Unit {0}

abbrev pub ChainEnds : Database → ℕ → ℕ → Frame → Session → Option Log → Result Chained NoMemory → Session → Option Log → Type 0
ChainEnds db n q z c l (Ok e) c' l' = Ends db z.env.packet.stamp (chain db n q) (point z c l) (Ok e.protos) (point e.frame c' l')
ChainEnds db n q z c l (Err e) c' l' = (y : Frame) → Ends db z.env.packet.stamp (chain db n q) (point z c l) (Err e) (point y c' l')
