use Rattle.std.proofs.Common.{◌∙◌, ◌<◌, ◌≤◌, length, length-set, arith, sym, subst}
use Rattle.std.proofs.lemmas.List.Elements.{All-set, AllWithin-more_set}
use Rattle.session.proofs.Sound.{there, declared_set, contents_set}
use Rattle.table_list.specs.State.{State}
use Rattle.session.proofs.tables.reserve.Goals as goal

pub returns-in_err-reserve-clause-declarations : goal.returns-in_err-reserve-clause-declarations
returns-in_err-reserve-clause-declarations c =
    declared_set c.loop-place.tables.items c.loop-place.place c.index_mut.result.now c.reserve.new.self
    (there c.loop-place.tables.items c.loop-place.place c.index_mut.result.now (search arith) c.index_mut.ensures.value) c.reserve.ensures.declaration
    ∙ c.loop-place.invariant.declarations

pub returns-in_err-reserve-clause-contents : goal.returns-in_err-reserve-clause-contents
returns-in_err-reserve-clause-contents c =
    contents_set c.loop-place.tables.items c.loop-place.place c.index_mut.result.now c.reserve.new.self
    (there c.loop-place.tables.items c.loop-place.place c.index_mut.result.now (search arith) c.index_mut.ensures.value) c.reserve.ensures.content
    ∙ c.loop-place.invariant.contents

pub loop-place-preserved : goal.loop-place-preserved
loop-place-preserved c =
    let ts = c.loop-place.tables.items in
    let i = c.loop-place.place in
    let x = c.index_mut.result.now in
    let y = c.reserve.new.self in
    let lt : i < length ts = search arith in
    let g = there ts i x lt c.index_mut.ensures.value in
    let more : x.spare ≤ y.spare = c.in_ok-reserve.ensures.room.1 in
    record {
      declarations = declared_set ts i x y g c.reserve.ensures.declaration ∙ c.loop-place.invariant.declarations;
      contents = contents_set ts i x y g c.reserve.ensures.content ∙ c.loop-place.invariant.contents;
      len = length-set ts i y ∙ c.loop-place.invariant.len;
      room = AllWithin-more_set ts i y lt (λ (t : State). c.args.n ≤ t.spare) c.loop-place.invariant.room c.in_ok-reserve.ensures.room.0;
      kept = λ k h. All-set (λ (t : State). k ≤ t.spare) ts i y (omega (arith, subst (λ (z : State). k ≤ z.spare) (sym c.index_mut.ensures.value) (c.loop-place.invariant.kept k h i x lt), more)) (c.loop-place.invariant.kept k h);
    }
