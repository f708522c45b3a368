use Rattle.std.proofs.Common.{◌≡◌, ◌∙◌, sym, subst, map, drop, ◌+◌}
use Rattle.db_model.specs.NameIndex.{Numbers}
use Rattle.db_model.proofs.Placed.{SoFar, walk_new, walk_old}
use Rattle.db_model.proofs.places.Places.of.Goals as goal
use Rattle.db_model.proofs.places.Places.of.Goals.{in-Some, in-None+in_ok-add-in-None}

pub loop-i-preserved : goal.loop-i-preserved
loop-i-preserved g c =
    let f = g.T.Declaration.named in
    let xs = c.args.declarations.now in
    let i = c.loop-i.i in
    elim c.match-number_of.branch [
      | in-Some w ↦ subst (λ (n : Numbers). SoFar (map f xs) n (i + 1) (map f (drop (i + 1) xs))) (sym w.places-is) (walk_old f xs i _ _ c.loop-i.places c.name-name.result.now c.loop-i-test.true c.index-declarations-i.is c.name-name.ensures (sym c.number_of.ensures ∙ w.in-Some.is) c.loop-i.invariant)
      | in-None+in_ok-add-in-None w ↦ subst (λ (n : Numbers). SoFar (map f xs) n (i + 1) (map f (drop (i + 1) xs))) (sym w.places-is) (walk_new f xs i _ c.loop-i.places _ c.name-name.result.now c.loop-i-test.true c.index-declarations-i.is c.name-name.ensures (sym c.number_of.ensures ∙ w.in-None.is) w.in_ok-add-in-None.ensures c.loop-i.invariant)
    ]
