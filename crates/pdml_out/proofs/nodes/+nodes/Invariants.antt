use Rattle.std.proofs.Common.{◌≡◌, ◌++◌, take}
use Rattle.std.specs.List.{flat_map}
use Rattle.pdml_out.specs.Pdml.{node_text}
use Rattle.pdml_out.proofs.nodes.+nodes.Given as goal

abbrev pub invariant-push_nodes-loop-node : goal.invariant-push_nodes-loop-node
invariant-push_nodes-loop-node l = l.text.items ≡ l.fn.text.items ++ flat_map (node_text l.db l.protocol) (take l.node-index l.nodes)
