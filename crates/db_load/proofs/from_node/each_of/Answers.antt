use Rattle.db_load.proofs.Each.{each_step}
use Rattle.db_load.proofs.from_node.each_of.Goals as goal

pub loop-node-preserved : goal.loop-node-preserved
loop-node-preserved g c = each_step c.args.word g.T.FromNode.means c.args.nodes.now c.loop-node.node-index c.node-item.result c.in_ok-found.found c.loop-node.items c.push_some.new.items _ c.loop-node-test.true c.node-item.is c.in_ok-found.ensures c.in_ok-push_some.ensures c.loop-node.invariant
