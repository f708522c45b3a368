use Rattle.std.proofs.Common.{◌∙◌, ap, sym, map}
use Rattle.db_cause.specs.declared.cause.Cause.TheVariants as cause
use Rattle.db_model.specs.Lines.{at_line}
use Rattle.db_check.specs.First.{first}
use Rattle.db_check.proofs.Again.{repeats_are, again_is, repeat_next}
use Rattle.db_check.proofs.repeats.repeated.Goals as goal

pub loop-i-init : goal.loop-i-init
loop-i-init g c = ap (first cause.DeclaredAgain) (sym (repeats_are g.T.Declaration.named g.T.Located.at (map g.B.Declaration.named c.args.taken.now) c.args.declared.now))

pub loop-i-preserved : goal.loop-i-preserved
loop-i-preserved g c =
    let name = g.T.Declaration.named in
    let line = g.T.Located.at in
    let taken = map g.B.Declaration.named c.args.taken.now in
    let xs = c.args.declared.now in
    let again = c.stands_before-again.result in
    repeat_next name line taken xs c.loop-i.i c.index-declared-i.result again c.loop-i.found c.at_line.result c.earlier-found.result _ c.loop-i-test.true c.index-declared-i.is
    (again_is name line xs c.in_ok-places.places taken c.loop-i.i c.index-declared-i.result c.name-name.result.now c.place_of-place.result again c.in_ok-places.ensures c.name-name.ensures c.place_of-place.ensures c.stands_before-again.ensures)
    (c.at_line.ensures ∙ ap (λ n. first cause.DeclaredAgain (at_line n again)) c.line.ensures)
    c.earlier-found.ensures c.loop-i.invariant
