use Rattle.std.proofs.Common.{◌≡◌, List, ℕ, Option, ◌++◌, OnOk, sym, ap, subst, ◌∙◌}
use Rattle.std.specs.Option.{option_copied}
use Rattle.db_model.specs.declared.database.ShowTemplate.{ShowTemplate}
use Rattle.show.specs.Shown.{shown}
use Rattle.pdml_out.proofs.Added.{twice, field_added}
use Rattle.pdml_out.proofs.lines.push_field.Goals as goal

pub returns : goal.returns
returns c =
    let value = c.args.value.now in
    let label = option_copied c.args.label in
    let template = ap (λ (t : Option ShowTemplate). c.push_numbers.new.text.items ++ twice value (shown t value)) c.template_of.ensures.template in
    let e = field_added c.args.db.now label c.args.pos c.args.size value c.args.text.now.items c.push_field_beginning.new.text.items c.push_numbers.new.text.items c.push_hex_and_shown.new.text.items c.in_ok-push_field_beginning.ensures c.in_ok-push_numbers.ensures (c.in_ok-push_hex_and_shown.ensures ∙ template) in
    subst (λ (l : List ℕ). OnOk c.push.result (c.push.new.text.items ≡ l)) e c.push.ensures
