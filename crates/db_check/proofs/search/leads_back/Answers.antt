use Rattle.std.proofs.Common.{◌≡◌, ◌∙◌, length, arith}
use Rattle.db_check.specs.Graph.{go, visit, unmarked, edges}
use Rattle.db_check.proofs.Searched.{go_next, go_end, found_is}
use Rattle.db_check.proofs.search.leads_back.Goals as goal

pub loop-place-preserved : goal.loop-place-preserved
loop-place-preserved c =
    go_next c.args.graph.now (length c.args.graph.now) c.loop-place.place c.loop-place.search c.turn.new.self _ (omega (arith, c.loop-place-test.true, c.len-place-end.ensures)) c.in_ok-turn.ensures c.loop-place.invariant

pub returns : goal.returns
returns c =
    let graph = c.args.graph.now in
    let done : c.loop-place.search ≡ go graph (length graph) 0 c.visit.new.self = go_end graph (length graph) c.loop-place.place c.loop-place.search _ (omega (arith, c.loop-place-test.false, c.len-place-end.ensures)) c.loop-place.invariant in
    let begun : c.visit.new.self ≡ visit (edges graph c.args.number) (unmarked graph) = c.in_ok-visit.ensures ∙ (λ i. visit (c.targets_of.ensures i) (c.in_ok-search.ensures i)) in
    c.is_marked.ensures ∙ found_is graph c.args.number c.loop-place.search c.visit.new.self done begun
