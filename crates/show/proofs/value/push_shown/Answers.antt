use Rattle.std.proofs.Common.{◌≡◌, ℕ, List, ◌++◌, OnOk, Option, Bor, sym, ap, subst, ◌∙◌}
use Rattle.std.specs.Option.{option_copied}
use Rattle.db_model.specs.declared.database.ShowTemplate.{ShowTemplate}
use Rattle.show.specs.Markup.{written}
use Rattle.show.specs.Shown.{shown}
use Rattle.show.proofs.Writing.{written-hex}
use Rattle.show.proofs.value.push_shown.Goals as goal

pub returns-in-None : goal.returns-in-None
returns-in-None c =
    let e = ap (λ (t : Option (Bor ShowTemplate)). written c.args.form (shown (option_copied t) c.args.bytes.now)) c.in-None.is ∙ written-hex c.args.form c.args.bytes.now in
    subst (λ (l : List ℕ). OnOk c.push_hex.result (c.push_hex.new.text.items ≡ c.args.text.now.items ++ l)) (sym e) c.push_hex.ensures
