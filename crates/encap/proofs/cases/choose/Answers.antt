use Rattle.std.proofs.Common.{rules, tests, sym, ◌∙◌}
use Rattle.std.proofs.lemmas.Iterator.{YieldsList-from_slice}
use Rattle.std.proofs.lemmas.Iterator.Search.{position_from_yields_List}
use Rattle.encap.specs.Choice.{case_holds}
use Rattle.encap.proofs.cases.choose.Goals as goal

pub returns-in_err-at : goal.returns-in_err-at
returns-in_err-at c =
    let found = position_from_yields_List (case_holds c.args.v) _ _ c.position.result c.position.ensures.ran (YieldsList-from_slice c.args.cases.now cc) (λ x b q k. search (rules, tests)) in
    c.from_residual.ensures ∙ (sym c.in_err-at.was ∙ found)

pub returns : goal.returns
returns c =
    let found = position_from_yields_List (case_holds c.args.v) _ _ c.position.result c.position.ensures.ran (YieldsList-from_slice c.args.cases.now cc) (λ x b q k. search (rules, tests)) in
    sym c.in_ok-at.was ∙ found
