use Rattle.std.proofs.Common.{◌≡◌, drop}
use Rattle.db_load.specs.Whole
use Rattle.db_load.proofs.protocol.one_list.Given as goal

abbrev pub invariant-loop-node : goal.invariant-loop-node
invariant-loop-node l = Whole.one_of l.word (Whole.list_of l.kind) (drop l.node-index l.nodes) ≡ Whole.one_of l.word (Whole.list_of l.kind) l.nodes
