use Rattle.std.proofs.Common.{◌≡◌, ℕ, List, [], ◌∷◌, ◌++◌, OnOk, sym, ap, subst, ◌∙◌, append-nil}
use Rattle.show.specs.declared.markup.TextForm.{TextForm}
use Rattle.show.specs.Markup.{entity, written}
use Rattle.show.proofs.markup.push_byte.Goals as goal

pub returns-in-Markup : goal.returns-in-Markup
returns-in-Markup c =
    let byte = c.args.byte in
    let e = ap (λ (form : TextForm). written form (byte ∷ [])) c.in-Markup.is ∙ append-nil (entity byte) in
    subst (λ (l : List ℕ). OnOk c.push_entity.result (c.push_entity.new.text.items ≡ c.args.text.now.items ++ l)) (sym e) c.push_entity.ensures
