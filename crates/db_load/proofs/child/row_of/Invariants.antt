use Rattle.std.proofs.Common.{◌≡◌, drop}
use Rattle.db_load.specs.Faults
use Rattle.db_load.proofs.child.row_of.Given as goal

abbrev pub invariant-loop-row : goal.invariant-loop-row
invariant-loop-row l = Faults.row_of (drop l.row-index l.rows) l.name ≡ Faults.row_of l.rows l.name
