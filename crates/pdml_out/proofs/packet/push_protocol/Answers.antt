use Rattle.std.proofs.Common.{◌≡◌, List, ℕ, OnOk, refl, subst}
use Rattle.show.specs.Labels.{labels_of}
use Rattle.pdml_out.proofs.Added.{protocol_found}
use Rattle.pdml_out.proofs.packet.push_protocol.Goals as goal

pub returns : goal.returns
returns c =
    let e = protocol_found c.args.db.now (labels_of c.args.db.now) c.line.result.now c.args.proto.now c.as_slice.result.now c.args.text.now.items c.push_protocol_line.new.text.items c.push_nodes.new.text.items refl c.line.ensures c.as_slice.ensures c.in_ok-push_protocol_line.ensures c.in_ok-push_nodes.ensures in
    subst (λ (l : List ℕ). OnOk c.push.result (c.push.new.text.items ≡ l)) e c.push.ensures
