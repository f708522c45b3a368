use Rattle.std.proofs.Common.{◌≡◌, ◌++◌, drop}
use Rattle.db_load.specs.Whole
use Rattle.db_load.proofs.from_node.each_of.Given as goal

abbrev pub invariant-loop-node : goal.invariant-loop-node
invariant-loop-node g l = l.items ++ Whole.each_of l.word g.T.FromNode.means (drop l.node-index l.nodes) ≡ Whole.each_of l.word g.T.FromNode.means l.nodes
