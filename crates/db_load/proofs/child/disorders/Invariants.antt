use Rattle.std.proofs.Common.{◌≡◌, drop}
use Rattle.db_load.specs.Faults
use Rattle.db_load.proofs.child.disorders.Given as goal

abbrev pub invariant-loop-node : goal.invariant-loop-node
invariant-loop-node l = Faults.disorders l.rows l.least (Faults.names_in (drop l.node-index l.nodes)) ≡ Faults.disorders l.rows 0 (Faults.names_in l.nodes)
