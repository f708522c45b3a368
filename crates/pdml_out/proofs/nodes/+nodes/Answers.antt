use Rattle.std.proofs.Common.{◌≡◌, List, ℕ, ◌++◌, OnOk, refl, ap, sym, subst}
use Rattle.std.specs.Option.{option_copied}
use Rattle.show.specs.Labels.{labels_of}
use Rattle.pdml_out.proofs.NodeText.{field_found, block_found, note_found}
use Rattle.pdml_out.proofs.nodes.+nodes.Goals as goal

pub push_node-returns-in-Field : goal.push_node-returns-in-Field
push_node-returns-in-Field t c =
    let e = field_found c.args.db.now (labels_of c.args.db.now) (option_copied c.field.result) c.args.node.now c.args.protocol c.in-Field.field c.in-Field.pos c.in-Field.size c.in-Field.value c.as_slice.result.now refl c.field.ensures c.as_slice.ensures.bytes c.in-Field.is in
    subst (λ (l : List ℕ). OnOk c.push_field.result (c.push_field.new.text.items ≡ c.args.text.now.items ++ l)) e c.push_field.ensures

pub push_node-returns-in_ok-push_nodes-in-Block : goal.push_node-returns-in_ok-push_nodes-in-Block
push_node-returns-in_ok-push_nodes-in-Block t c =
    let e = block_found c.args.db.now (labels_of c.args.db.now) (option_copied c.block.result) c.args.node.now c.args.protocol c.in-Block.block c.in-Block.pos c.in-Block.size c.in-Block.nodes c.as_slice-in-Block.result.now c.args.text.now.items c.push_block_line.new.text.items c.push_nodes.new.text.items refl c.block.ensures c.as_slice-in-Block.ensures c.in-Block.is c.in_ok-push_block_line-in-Block.ensures c.in_ok-push_nodes-in-Block.ensures in
    subst (λ (l : List ℕ). OnOk c.push.result (c.push.new.text.items ≡ l)) e c.push.ensures

pub push_node-returns-in-Note : goal.push_node-returns-in-Note
push_node-returns-in-Note t c =
    subst (λ (l : List ℕ). OnOk c.push_note.result (c.push_note.new.text.items ≡ c.args.text.now.items ++ l)) (note_found c.args.db.now c.args.node.now c.args.protocol c.in-Note.reason c.in-Note.pos c.in-Note.is) c.push_note.ensures
