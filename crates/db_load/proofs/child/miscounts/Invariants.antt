use Rattle.std.proofs.Common.{◌≡◌, drop}
use Rattle.db_load.specs.Faults
use Rattle.db_load.proofs.child.miscounts.Given as goal

abbrev pub invariant-loop-row : goal.invariant-loop-row
invariant-loop-row l = Faults.miscounts (Faults.names_in l.nodes) (drop l.row-index l.rows) ≡ Faults.miscounts (Faults.names_in l.nodes) l.rows
