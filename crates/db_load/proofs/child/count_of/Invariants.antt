use Rattle.std.proofs.Common.{◌≡◌, drop, ◌≤◌, ◌+◌}
use Rattle.db_load.specs.Faults
use Rattle.db_load.specs.Words.{spelled}
use Rattle.db_load.proofs.child.count_of.Given as goal

abbrev pub invariant-loop-node : goal.invariant-loop-node
invariant-loop-node l = (l.count ≤ l.node-index) × (l.count + Faults.count_of (Faults.names_in (drop l.node-index l.nodes)) (spelled l.word) ≡ Faults.count_of (Faults.names_in l.nodes) (spelled l.word))
