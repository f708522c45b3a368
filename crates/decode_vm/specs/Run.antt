-- What the engine makes of the list of one protocol.
use Rattle.std.specs.Prelude.{◌≡◌, ℕ, ◌≤◌, List, [], ◌∷◌, ◌++◌, length, Option, Some, None, Result, Ok, Err}
use Rattle.db_model.specs.declared.database.Database.{Database}
use Rattle.db_model.specs.declared.env.Frame.{Frame}
use Rattle.db_model.specs.declared.env.Way.{Way}
use Rattle.db_model.specs.declared.no_memory.NoMemory.{NoMemory}
use Rattle.db_model.specs.Over.{Point, point, Ends}
use Rattle.db_model.specs.Questions.{Log}
use Rattle.db_model.specs.Runs.{Run}
use Rattle.db_model.specs.Session.{Session}
use Rattle.pdl_code.specs.declared.code.ProtoCode.{ProtoCode}
use Rattle.pdl_code.specs.Does.{Does}
use Rattle.decode_vm.specs.declared.machine.Held.{Held}
use Rattle.decode_vm.specs.declared.machine.Machine.{Machine}
use Rattle.decode_vm.specs.declared.machine.Mode.TheVariants as mode
use Rattle.decode_vm.specs.declared.list.Ended.{Ended}
use Rattle.decode_vm.specs.Left.{AllFit, Left, Moves, Refuses}
use Rattle.decode_vm.specs.Machine.{resumed}

-- the origin, the position and the limit stand in this order before the packet's end
pub record IsPlaced (z : Frame) : Type 0 where
  pub origin : z.env.origin ≤ z.env.at
  pub position : z.env.at ≤ z.env.limit
  pub limit : z.env.limit ≤ length z.env.packet.bytes

-- the engine before the first operation
abbrev pub first_of : Frame → Machine
first_of z = record { mode = mode.At 0; held = []; nodes = []; frame = z }

-- a list ended: the one around it goes on, where there is one
abbrev pub Closed : Way → Machine → Result (Option Way) NoMemory → Machine → Type 0
Closed w m (Ok None) n = (h : Held) × (hs : List Held) × (m.held ≡ hs ++ h ∷ []) × (n ≡ resumed h w (record m { held = hs }))
Closed w m (Ok (Some v)) n = (v ≡ w) × (m.held ≡ []) × (n ≡ m)
Closed w m (Err e) n = Unit {0}

module _ (db : Database) (code : ProtoCode) where
  -- the code does some run, whose questions fit
  pub record HasRun (z : Frame) : Type 0 where
    pub run : Run
    pub does : Does db code 0 run
    pub fit : AllFit db (run z)

  -- whatever was left of a run has ended in a way
  pub record Finishes (w : Way) (m : Machine) (c : Session) (l : Option Log) (n : Machine) (c' : Session) (l' : Option Log) : Type 0 where
    pub ends : (t : ℕ) (r : Run) (s : Point Frame) → Left db code t r s m c l → Ends db t r s (Ok (w, n.nodes)) (point n.frame c' l')
    pub frame : n.frame ≡ m.frame

  -- one step of the engine, or the whole has ended
  abbrev pub Stepped : Machine → Session → Option Log → Result (Option Way) NoMemory → Machine → Session → Option Log → Type 0
  Stepped m c l (Ok None) n c' l' = Moves db code m c l n c' l'
  Stepped m c l (Ok (Some w)) n c' l' = Finishes w m c l n c' l'
  Stepped m c l (Err e) n c' l' = Refuses db code m c l e n c' l'

  -- the run of the code, begun at a frame: what it gives, and, where memory was refused, some first of its questions
  abbrev pub RunEnds : Frame → Session → Option Log → Result Ended NoMemory → Session → Option Log → Type 0
  RunEnds z c l (Ok e) c' l' = (r : Run) → Does db code 0 r → AllFit db (r z) → Ends db z.env.packet.stamp r (point z c l) (Ok (e.way, e.nodes)) (point e.frame c' l')
  RunEnds z c l (Err e) c' l' = (r : Run) → Does db code 0 r → AllFit db (r z) → (y : Frame) → Ends db z.env.packet.stamp r (point z c l) (Err e) (point y c' l')
