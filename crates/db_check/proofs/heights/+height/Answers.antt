use Rattle.std.proofs.Common.{◌∙◌, max, ap, sym}
use Rattle.db_model.specs.declared.element.Case.{Case}
use Rattle.db_model.specs.NameFaults.{block_names}
use Rattle.db_check.specs.Heights.{raised, height_at, height_of, height_in, height_of_cases}
use Rattle.db_check.proofs.Nesting.{height_block, height_loop, height_switch, height_if}
use Rattle.db_check.proofs.Tallest.{taller_on, tallest_end}
use Rattle.db_check.proofs.heights.+height.Goals as goal

pub of_element-returns-in-Block : goal.of_element-returns-in-Block
of_element-returns-in-Block t c =
    let I = height_at (block_names c.args.home.now.protocol.now) c.args.heights.now in
    c.raised.ensures ∙ (ap raised (c.of_list.ensures ∙ ap (height_in I) c.as_slice.ensures)
    ∙ (sym (height_block I c.in-Block.line c.in-Block.name c.in-Block.longname c.in-Block.body) ∙ ap (height_of I) (sym c.in-Block.is)))

pub of_element-returns-in-Loop : goal.of_element-returns-in-Loop
of_element-returns-in-Loop t c =
    let I = height_at (block_names c.args.home.now.protocol.now) c.args.heights.now in
    c.raised-in-Loop.ensures ∙ (ap raised (c.of_list-in-Loop.ensures ∙ ap (height_in I) c.as_slice-in-Loop.ensures)
    ∙ (sym (height_loop I c.in-Loop.line c.in-Loop.kind c.in-Loop.expr c.in-Loop.body) ∙ ap (height_of I) (sym c.in-Loop.is)))

pub of_element-returns-in-Switch : goal.of_element-returns-in-Switch
of_element-returns-in-Switch t c =
    let I = height_at (block_names c.args.home.now.protocol.now) c.args.heights.now in
    c.taller.ensures ∙ ((λ i. max ((c.of_cases.ensures ∙ ap (height_of_cases I) c.as_slice-in-Switch.ensures) i) (c.of_branch.ensures i))
    ∙ (sym (height_switch I c.in-Switch.line c.in-Switch.expr c.in-Switch.cases c.in-Switch.otherwise) ∙ ap (height_of I) (sym c.in-Switch.is)))

pub of_element-returns-in-If : goal.of_element-returns-in-If
of_element-returns-in-If t c =
    let I = height_at (block_names c.args.home.now.protocol.now) c.args.heights.now in
    c.taller-in-If.ensures ∙ ((λ i. max ((c.of_list-in-If.ensures ∙ ap (height_in I) c.as_slice-in-If.ensures) i) (c.of_branch-in-If.ensures i))
    ∙ (sym (height_if I c.in-If.line c.in-If.expr c.in-If.true_line c.in-If.if_true c.in-If.if_false) ∙ ap (height_of I) (sym c.in-If.is)))

pub of_list-loop-element-preserved : goal.of_list-loop-element-preserved
of_list-loop-element-preserved t c =
    taller_on (height_of (height_at (block_names c.args.home.now.protocol.now) c.args.heights.now)) c.args.elements.now c.loop-element.element-index c.element-item.result c.loop-element.found c.of_element.result c.taller-found.result _ c.loop-element-test.true c.element-item.is c.of_element.ensures c.taller-found.ensures c.loop-element.invariant

pub of_list-returns : goal.of_list-returns
of_list-returns t c =
    tallest_end (height_of (height_at (block_names c.args.home.now.protocol.now) c.args.heights.now)) c.args.elements.now c.loop-element.element-index c.loop-element.found _ c.loop-element-test.false c.loop-element.invariant

pub of_cases-loop-case-preserved : goal.of_cases-loop-case-preserved
of_cases-loop-case-preserved t c =
    let I = height_at (block_names c.args.home.now.protocol.now) c.args.heights.now in
    taller_on (λ (k : Case). height_in I k.body) c.args.cases.now c.loop-case.case-index c.case-item.result c.loop-case.found c.of_list.result c.taller-found.result _ c.loop-case-test.true c.case-item.is (c.of_list.ensures ∙ ap (height_in I) c.as_slice.ensures) c.taller-found.ensures c.loop-case.invariant

pub of_cases-returns : goal.of_cases-returns
of_cases-returns t c =
    tallest_end (λ (k : Case). height_in (height_at (block_names c.args.home.now.protocol.now) c.args.heights.now) k.body) c.args.cases.now c.loop-case.case-index c.loop-case.found _ c.loop-case-test.false c.loop-case.invariant
