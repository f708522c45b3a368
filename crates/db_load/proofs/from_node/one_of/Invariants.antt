use Rattle.std.proofs.Common.{◌≡◌, drop}
use Rattle.db_load.specs.Whole
use Rattle.db_load.proofs.from_node.one_of.Given as goal

abbrev pub invariant-loop-node : goal.invariant-loop-node
invariant-loop-node g l = Whole.one_of l.word g.T.FromNode.means (drop l.node-index l.nodes) ≡ Whole.one_of l.word g.T.FromNode.means l.nodes
