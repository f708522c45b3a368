-- What holds of the positions of a machine: the origin, the position, the limit and the limits that are set again stand in this order before the packet's end, and no open block began behind the position.
use Rattle.std.specs.Prelude.{ℕ, ◌≤◌, List, [], ◌∷◌, length, reverse}
use Rattle.decode_vm.specs.declared.machine.Again.{Again}
use Rattle.decode_vm.specs.declared.machine.Again.TheVariants as again
use Rattle.decode_vm.specs.declared.machine.Held.{Held}
use Rattle.decode_vm.specs.declared.machine.Held.TheVariants as held
use Rattle.decode_vm.specs.declared.machine.Machine.{Machine}
use Rattle.decode_vm.specs.declared.machine.Mode.{Mode}
use Rattle.decode_vm.specs.declared.machine.Mode.TheVariants as mode

-- from a limit over others up to an end, none stands before the one in front of it
abbrev pub Rising : ℕ → List ℕ → ℕ → Type 0
Rising limit [] end = limit ≤ end
Rising limit (old ∷ olds) end = (limit ≤ old) × Rising old olds end

-- the limit that a loop sets again, before those of others
abbrev pub old_before : Again → List ℕ → List ℕ
old_before (again.Count n) olds = olds
old_before (again.While at) olds = olds
old_before (again.Size old) olds = old ∷ olds

-- the limits that are set again, from the innermost outwards
abbrev pub olds_of : List Held → List ℕ
olds_of [] = []
olds_of (held.Block n from before after ∷ hs) = olds_of hs
olds_of (held.Loop a body after ∷ hs) = old_before a (olds_of hs)

abbrev pub olds_in : Mode → List ℕ → List ℕ
olds_in (mode.At pc) olds = olds
olds_in (mode.Turn a body after) olds = old_before a olds
olds_in (mode.Leaving w) olds = olds

-- the blocks began at the position or before it
abbrev pub BegunBefore : ℕ → List Held → Type 0
BegunBefore at [] = Unit {0}
BegunBefore at (held.Block n from before after ∷ hs) = (from ≤ at) × BegunBefore at hs
BegunBefore at (held.Loop a body after ∷ hs) = BegunBefore at hs

pub record Sound (m : Machine) : Type 0 where
  pub origin : m.frame.env.origin ≤ m.frame.env.at
  pub position : m.frame.env.at ≤ m.frame.env.limit
  pub limits : Rising m.frame.env.limit (olds_in m.mode (olds_of (reverse m.held))) (length m.frame.env.packet.bytes)
  pub blocks : BegunBefore m.frame.env.at (reverse m.held)
