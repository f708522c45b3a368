use Rattle.std.proofs.Common.{◌≡◌, ◌++◌, take}
use Rattle.std.specs.List.{flat_map}
use Rattle.pdml_out.specs.Pdml.{payload_node_text}
use Rattle.pdml_out.proofs.packet.push_payload_nodes.Given as goal

abbrev pub invariant-loop-node : goal.invariant-loop-node
invariant-loop-node l = l.text.items ≡ l.fn.text.items ++ flat_map payload_node_text (take l.node-index l.nodes)
