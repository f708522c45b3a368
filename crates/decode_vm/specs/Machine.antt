-- What the steps of a machine that ask nothing make of it.
use Rattle.std.specs.Prelude.{◌≡◌, ℕ, ◌+◌, ◌-◌, ◌≤◌, min, if◌then◌else◌, nat_le, nat_lt, ◌==◌, List, [], ◌∷◌, ◌++◌, length}
use Rattle.db_model.specs.declared.element.LoopControl.{LoopControl}
use Rattle.db_model.specs.declared.element.LoopControl.TheVariants as control
use Rattle.db_model.specs.declared.env.Env.{Env}
use Rattle.db_model.specs.declared.env.Frame.{Frame}
use Rattle.db_model.specs.declared.env.Way.{Way}
use Rattle.db_model.specs.declared.env.Way.TheVariants.{Next, Break, Continue, Chose, Stop}
use Rattle.db_model.specs.declared.tree.Node.{Node}
use Rattle.db_model.specs.declared.tree.Node.TheVariants.{Block, Note}
use Rattle.db_model.specs.declared.tree.Reason.{Reason}
use Rattle.db_model.specs.declared.tree.Reason.TheVariants as reason
use Rattle.db_model.specs.Questions.{Gives}
use Rattle.db_model.specs.Runs.{Run, limited, with_turns}
use Rattle.pdl_code.specs.declared.code.ProtoCode.{ProtoCode}
use Rattle.decode_vm.specs.declared.machine.Again.{Again}
use Rattle.decode_vm.specs.declared.machine.Again.TheVariants as again
use Rattle.decode_vm.specs.declared.machine.Held.{Held}
use Rattle.decode_vm.specs.declared.machine.Held.TheVariants as held
use Rattle.decode_vm.specs.declared.machine.Machine.{Machine}
use Rattle.decode_vm.specs.declared.machine.Mode.{Mode}
use Rattle.decode_vm.specs.declared.machine.Mode.TheVariants as mode

-- the place so many operations behind the one after a place, at most the end of the code
abbrev pub place_behind : ProtoCode → ℕ → ℕ → ℕ
place_behind code pc to = min (pc + 1 + to) (length code.ops)

-- where a list goes on behind a part that ended in a way
abbrev pub mode_behind : ℕ → Way → Mode
mode_behind after Next = mode.At after
mode_behind after Break = mode.Leaving Break
mode_behind after Continue = mode.Leaving Continue
mode_behind after (Chose q) = mode.Leaving (Chose q)
mode_behind after (Stop r) = mode.Leaving (Stop r)

-- how a list ends that leaves a turn or a loop
abbrev pub way_of : LoopControl → Way
way_of control.Break = Break
way_of control.Continue = Continue

abbrev pub in_mode : Mode → Machine → Machine
in_mode w m = record m { mode = w }

abbrev pub at_env : Env → Machine → Machine
at_env e m = record m { frame = record m.frame { env = e } }

abbrev pub at_frame : Frame → Machine → Machine
at_frame z m = record m { frame = z }

-- the decoding ends: a note is the last node of the innermost list
abbrev pub halted : Reason → Machine → Machine
halted r m = record m { mode = mode.Leaving (Stop r); nodes = m.nodes ++ Note r m.frame.env.at ∷ [] }

-- a list is left for a block in it, which takes a node
abbrev pub opened : ℕ → ℕ → ℕ → Machine → Machine
opened n body after m =
    if m.frame.nodes == 0 then halted reason.Nodes m else record { mode = mode.At body; held = m.held ++ held.Block n m.frame.env.at m.nodes after ∷ []; nodes = []; frame = record m.frame { nodes = m.frame.nodes - 1 } }

-- the limit that was there before a loop
abbrev pub restored : Again → Machine → Machine
restored (again.Count n) m = m
restored (again.While at) m = m
restored (again.Size old) m = at_frame (limited old m.frame) m

-- a list is left for the body of a loop, which takes a turn
abbrev pub spent : Again → ℕ → ℕ → Machine → Machine
spent a body after m =
    if m.frame.env.turns == 0 then restored a (halted reason.Turns m) else record m { mode = mode.At body; held = m.held ++ held.Loop a body after ∷ []; frame = with_turns (m.frame.env.turns - 1) m.frame }

-- a loop makes no further turn
abbrev pub over : Again → ℕ → Machine → Machine
over a after m = restored a (in_mode (mode.At after) m)

abbrev pub counted : ℕ → ℕ → ℕ → Machine → Machine
counted left body after m = if left == 0 then over (again.Count left) after m else spent (again.Count (left - 1)) body after m

abbrev pub tested : ℕ → ℕ → ℕ → ℕ → Machine → Machine
tested v at body after m = if v == 0 then over (again.While at) after m else spent (again.While at) body after m

abbrev pub sized : ℕ → ℕ → ℕ → Machine → Machine
sized old body after m = if nat_lt m.frame.env.at m.frame.env.limit then spent (again.Size old) body after m else over (again.Size old) after m

-- a loop whose limit is so many bytes on, where so many are there
abbrev pub under : ℕ → ℕ → ℕ → Machine → Machine
under n body after m =
    if nat_le n (m.frame.env.limit - m.frame.env.at) then record m { mode = mode.Turn (again.Size m.frame.env.limit) body after; frame = limited (m.frame.env.at + n) m.frame } else halted reason.Short m

-- a list goes on in which a block ended in a way
abbrev pub closed_to : ℕ → ℕ → List Node → ℕ → Way → Machine → Machine
closed_to n from before after w m = record m { mode = mode_behind after w; nodes = before ++ Block n from (m.frame.env.at - from) m.nodes ∷ [] }

-- a loop goes on after a turn that ended in a way
abbrev pub turned_to : Again → ℕ → ℕ → Way → Machine → Machine
turned_to a body after Next m = in_mode (mode.Turn a body after) m
turned_to a body after Continue m = in_mode (mode.Turn a body after) m
turned_to a body after Break m = over a after m
turned_to a body after (Chose q) m = restored a (in_mode (mode.Leaving (Chose q)) m)
turned_to a body after (Stop r) m = restored a (in_mode (mode.Leaving (Stop r)) m)

abbrev pub resumed : Held → Way → Machine → Machine
resumed (held.Block n from before after) w m = closed_to n from before after w m
resumed (held.Loop a body after) w m = turned_to a body after w m

-- ---- runs that are done at once

-- of a frame only the position has moved, within the limit, and nodes, values and fields have changed
pub record Keeps (y z : Frame) : Type 0 where
  pub packet : z.env.packet ≡ y.env.packet
  pub origin : z.env.origin ≡ y.env.origin
  pub limit : z.env.limit ≡ y.env.limit
  pub turns : z.env.turns ≡ y.env.turns
  pub nodes : z.nodes ≤ y.nodes
  pub forward : y.env.at ≤ z.env.at
  pub within : y.env.at ≤ y.env.limit → z.env.at ≤ z.env.limit

-- a run that asks nothing was done from m on, and its list goes on at a place
pub record Ran (p : Run) (after : ℕ) (m n : Machine) : Type 0 where
  pub way : Way
  pub nodes : List Node
  pub frame : Frame
  pub gave : p m.frame ≡ Gives ((way, nodes), frame)
  pub keeps : Keeps m.frame frame
  pub is : n ≡ record m { mode = mode_behind after way; nodes = m.nodes ++ nodes; frame = frame }
