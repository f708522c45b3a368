use Rattle.std.proofs.Common.{◌≡◌, List, ℕ, OnOk, subst}
use Rattle.psml_out.specs.Psml.{section_text}
use Rattle.psml_out.proofs.SectionLines.{closed}
use Rattle.psml_out.proofs.packet.push_section.Goals as goal

pub returns : goal.returns
returns c =
    let e = closed c.args.text.now.items c.push.new.text.items c.push_section_text.new.text.items (section_text c.args.source.now.db.now c.args.source.now.packet.now c.args.tree.now c.args.section) c.in_ok-push.ensures c.in_ok-push_section_text.ensures in
    subst (λ (l : List ℕ). OnOk c.push-2.result (c.push-2.new.text.items ≡ l)) e c.push-2.ensures
