use Rattle.std.proofs.Common.{◌≡◌, List, ℕ, OnOk, subst}
use Rattle.psml_out.proofs.SectionLines.{closed}
use Rattle.psml_out.proofs.packet.push_name.Goals as goal

pub returns : goal.returns
returns c =
    let e = closed c.args.text.now.items c.push.new.text.items c.push_written.new.text.items c.args.name.now c.in_ok-push.ensures c.in_ok-push_written.ensures in
    subst (λ (l : List ℕ). OnOk c.push-2.result (c.push-2.new.text.items ≡ l)) e c.push-2.ensures
