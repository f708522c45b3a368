use Rattle.std.proofs.Common.{◌≡◌, List, ℕ, None, ◌++◌, OnOk, ap, codes, subst, ◌∙◌}
use Rattle.std.specs.List.{flat_map}
use Rattle.db_model.specs.declared.tree.Node.{Node}
use Rattle.pdml_out.specs.Pdml.{payload_node_text}
use Rattle.pdml_out.proofs.Added.{protocol_added}
use Rattle.pdml_out.proofs.packet.push_payload.Goals as goal

pub returns : goal.returns
returns c =
    let proto = c.args.proto.now in
    let nodes = ap (λ (ns : List Node). c.push_payload_line.new.text.items ++ flat_map payload_node_text ns) c.as_slice.ensures in
    let e = protocol_added (codes "payload") None proto.pos proto.size (flat_map payload_node_text proto.nodes) c.args.text.now.items c.push_payload_line.new.text.items c.push_payload_nodes.new.text.items c.in_ok-push_payload_line.ensures (c.in_ok-push_payload_nodes.ensures ∙ nodes) in
    subst (λ (l : List ℕ). OnOk c.push.result (c.push.new.text.items ≡ l)) e c.push.ensures
