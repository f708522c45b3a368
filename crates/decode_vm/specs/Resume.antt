-- What closing a block takes for granted.
use Rattle.std.specs.Prelude.{ℕ, ◌≤◌}
use Rattle.decode_vm.specs.declared.machine.Held.{Held}
use Rattle.decode_vm.specs.declared.machine.Held.TheVariants as held

-- a block began at a position or before it
abbrev pub IsBegun : Held → ℕ → Type 0
IsBegun (held.Block n from before after) at = from ≤ at
IsBegun (held.Loop a body after) at = Unit {0}
