use Rattle.std.proofs.Common.{◌≡◌, drop, ◌+◌}
use Rattle.db_load.specs.Faults
use Rattle.db_load.proofs.child.place_of.Given as goal

abbrev pub invariant-loop-i : goal.invariant-loop-i
invariant-loop-i l = l.i + Faults.place_of (drop l.i l.rows) l.name ≡ Faults.place_of l.rows l.name
