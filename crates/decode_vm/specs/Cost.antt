-- How far a machine is from its end at most. Each list that is begun takes a turn or a node, and everything else goes forward in the code or closes a list.
use Rattle.std.specs.Prelude.{ℕ, ◌+◌, ◌-◌, ◌*◌, List, [], ◌∷◌, length}
use Rattle.pdl_code.specs.declared.code.ProtoCode.{ProtoCode}
use Rattle.decode_vm.specs.declared.machine.Held.{Held}
use Rattle.decode_vm.specs.declared.machine.Held.TheVariants as held
use Rattle.decode_vm.specs.declared.machine.Machine.{Machine}
use Rattle.decode_vm.specs.declared.machine.Mode.{Mode}
use Rattle.decode_vm.specs.declared.machine.Mode.TheVariants as mode

-- in code of so many operations
module _ (size : ℕ) where
  abbrev pub place : ℕ → ℕ
  place pc = 2 * (size - pc)

  abbrev pub of_mode : Mode → ℕ
  of_mode (mode.At pc) = place pc + 2
  of_mode (mode.Turn a body after) = place after + 3
  of_mode (mode.Leaving w) = 1

  abbrev pub of_held : Held → ℕ
  of_held (held.Block n from before after) = place after + 3
  of_held (held.Loop a body after) = place after + 3

  abbrev pub of_all : List Held → ℕ
  of_all [] = 0
  of_all (h ∷ hs) = of_held h + of_all hs

  abbrev pub for_each : ℕ
  for_each = 4 * size + 6

-- what turns and nodes that are left may take, and what the machine holds
unfoldable pub cost : ProtoCode → Machine → ℕ
cost code m = (m.frame.env.turns + m.frame.nodes) * for_each (length code.ops) + (of_mode (length code.ops) m.mode + of_all (length code.ops) m.held)
