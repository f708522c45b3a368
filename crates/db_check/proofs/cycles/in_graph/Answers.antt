use Rattle.db_model.specs.NameFaults.{block_names}
use Rattle.db_check.proofs.Including.{cycle_next}
use Rattle.db_check.proofs.cycles.in_graph.Goals as goal

pub loop-number-preserved : goal.loop-number-preserved
loop-number-preserved c = cycle_next c.args.ordered.now.graph.now (block_names c.args.home.now.protocol.now) c.args.blocks.now c.loop-number.number c.index-blocks-number.result c.loop-number.found c.in_ok-found.found _ c.loop-number-test.true c.index-blocks-number.is c.in_ok-found.ensures c.loop-number.invariant
