use Rattle.std.proofs.Common.{◌≡◌, ◌≤◌, ℕ, Some}
use Rattle.npd_host.specs.MemHost.{outputs_at}
use Rattle.npd_host.proofs.memory.outputs.last.Given as goal

-- no output from the place on has the name
abbrev pub invariant-loop-place : goal.invariant-loop-place
invariant-loop-place l = (id : ℕ) → l.place ≤ id → (outputs_at l.outputs).name id ≡ Some l.name → ⊥
