use Rattle.std.proofs.Common.{◌≡◌, ◌++◌, drop}
use Rattle.db_load.specs.Whole
use Rattle.db_load.proofs.summary.items_in.Given as goal

abbrev pub invariant-loop-node : goal.invariant-loop-node
invariant-loop-node l = l.items ++ Whole.items_in (drop l.node-index l.nodes) ≡ Whole.items_in l.nodes
