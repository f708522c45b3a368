use Rattle.std.proofs.Common.{◌∙◌, ◌&&◌, ap, sym}
use Rattle.std.specs.Option.{option_eq}
use Rattle.db_model.specs.Table.{same_keys, same_place}
use Rattle.table_list.proofs.Walks.{find_here}
use Rattle.table_list.proofs.search.same_place.Goals as goal

pub returns-then-eq-2-clause-entry : goal.returns-then-eq-2-clause-entry
returns-then-eq-2-clause-entry c =
    let e = c.index-part-i.result in
    find_here (same_place c.args.entry.now) c.args.part.now c.loop-i.i e _ c.loop-i-test.true c.index-part-i.is
    (ap (λ b. b && option_eq same_keys c.args.entry.now.masks e.masks) (sym c.eq.ensures ∙ c.if-eq.true) ∙ (sym c.eq-then-eq.ensures ∙ c.if-eq-2.true)) c.loop-i.invariant
