use Rattle.std.proofs.Common.{◌≡◌, map, drop}
use Rattle.db_model.specs.LeastFault.{earlier, least}
use Rattle.db_load.specs.Faults
use Rattle.db_load.proofs.walk.+walk.Given as goal

abbrev pub invariant-below-loop-node : goal.invariant-below-loop-node
invariant-below-loop-node l = earlier l.found (least (Faults.below l.rows l.left (map Faults.part (drop l.node-index l.nodes)))) ≡ least (Faults.below l.rows l.left (map Faults.part l.nodes))
