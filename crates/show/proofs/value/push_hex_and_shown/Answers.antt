use Rattle.std.proofs.Common.{◌≡◌, ℕ, List, ◌++◌, OnOk, Option, Bor, sym, ap, subst, ◌∙◌}
use Rattle.std.specs.Option.{option_copied}
use Rattle.hex.specs.Hex.{encode_lower}
use Rattle.db_model.specs.declared.database.ShowTemplate.{ShowTemplate}
use Rattle.show.specs.declared.markup.TextForm.TheVariants.{Markup}
use Rattle.show.specs.Markup.{escaped}
use Rattle.show.specs.Shown.{shown}
use Rattle.show.proofs.Writing.{written-hex}
use Rattle.show.proofs.value.push_hex_and_shown.Goals as goal

pub returns-in-None : goal.returns-in-None
returns-in-None c =
    let bytes = c.args.bytes.now in
    let e = ap (λ (t : Option (Bor ShowTemplate)). escaped (shown (option_copied t) bytes)) c.in-None.is ∙ written-hex Markup bytes in
    subst (λ (l : List ℕ). OnOk c.push_hex_twice.result (c.push_hex_twice.new.text.items ≡ c.args.text.now.items ++ (encode_lower bytes ++ (c.args.between.now ++ l)))) (sym e) c.push_hex_twice.ensures
