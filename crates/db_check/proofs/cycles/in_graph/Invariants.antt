use Rattle.std.proofs.Common.{◌≡◌, drop}
use Rattle.db_cause.specs.declared.cause.Cause.TheVariants as cause
use Rattle.db_model.specs.LeastFault.{earlier}
use Rattle.db_model.specs.NameFaults.{block_names}
use Rattle.db_check.specs.First.{first}
use Rattle.db_check.specs.Graph.{cycles_from}
use Rattle.db_check.proofs.cycles.in_graph.Given as goal

abbrev pub invariant-loop-number : goal.invariant-loop-number
invariant-loop-number l = earlier l.found (first cause.IncludesItself (cycles_from l.ordered.graph.now (block_names l.home.protocol.now) l.number (drop l.number l.blocks))) ≡ first cause.IncludesItself (cycles_from l.ordered.graph.now (block_names l.home.protocol.now) 0 l.blocks)
