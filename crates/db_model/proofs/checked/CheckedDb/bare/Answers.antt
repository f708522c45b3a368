use Rattle.std.proofs.Common.{◌≡◌, sym, subst, true, None, ap, ◌∙◌, ◌++◌, ◌∷◌, []}
use Rattle.db_model.specs.Objection.{objection}
use Rattle.db_model.specs.Shape.{is_shaped}
use Rattle.db_model.proofs.BareDb.{start, made_bare, bare_shaped, bare_accepted}
use Rattle.db_model.proofs.checked.CheckedDb.bare.Goals as goal

pub seal-requires-clause-shaped : goal.seal-requires-clause-shaped
seal-requires-clause-shaped c =
    let name = c.in_ok-copy_of.field-0 in
    let e = made_bare name c.new.result c.new-2.result c.new-3.result c.new-4.result c.push.new.self c.in_ok-copy_of.ensures c.new.ensures c.new-2.ensures c.new-3.ensures c.new-4.ensures (c.in_ok-push.ensures.ok ∙ ap (λ l. l ++ start name ∷ []) c.new-protocols.ensures) in
    subst (λ db. is_shaped db ≡ true) (sym e) bare_shaped

pub seal-requires-clause-accepted : goal.seal-requires-clause-accepted
seal-requires-clause-accepted c =
    let name = c.in_ok-copy_of.field-0 in
    let e = made_bare name c.new.result c.new-2.result c.new-3.result c.new-4.result c.push.new.self c.in_ok-copy_of.ensures c.new.ensures c.new-2.ensures c.new-3.ensures c.new-4.ensures (c.in_ok-push.ensures.ok ∙ ap (λ l. l ++ start name ∷ []) c.new-protocols.ensures) in
    subst (λ db. objection db ≡ None) (sym e) bare_accepted
