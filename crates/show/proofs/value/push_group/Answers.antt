use Rattle.std.proofs.Common.{◌≡◌, List, ℕ, ◌<◌, ◌^◌, ◌++◌, OnOk, decimal, sym, ap, subst, ◌∙◌, arith}
use Rattle.db_model.specs.declared.database.ShowType.{ShowType}
use Rattle.show.specs.Markup.{written}
use Rattle.show.specs.Shown.{group_shown}
use Rattle.show.proofs.Writing.{written-hex, written-decimal}
use Rattle.show.proofs.value.push_group.Goals as goal

pub returns-in-Hex : goal.returns-in-Hex
returns-in-Hex c =
    let e = ap (λ (k : ShowType). written c.args.form (group_shown k c.args.group.now)) c.in-Hex.is ∙ written-hex c.args.form c.args.group.now in
    subst (λ (l : List ℕ). OnOk c.push_hex.result (c.push_hex.new.text.items ≡ c.args.text.now.items ++ l)) (sym e) c.push_hex.ensures

pub returns-in-Dec : goal.returns-in-Dec
returns-in-Dec c =
    let h : c.from.result < 2 ^ 64 = omega arith in
    let number = c.from.ensures ∙ c.big_endian.ensures in
    let e = ap (λ (k : ShowType). written c.args.form (group_shown k c.args.group.now)) c.in-Dec.is ∙ ap (λ (n : ℕ). written c.args.form (decimal n)) (sym number) ∙ written-decimal c.args.form c.from.result h in
    subst (λ (l : List ℕ). OnOk c.push_number.result (c.push_number.new.text.items ≡ c.args.text.now.items ++ l)) (sym e) c.push_number.ensures
