use Rattle.std.proofs.Common.{◌∙◌, ap, sym}
use Rattle.db_model.specs.declared.element.Case.{Case}
use Rattle.db_model.specs.LeastFault.{earlier}
use Rattle.db_model.specs.Lines.{over, lines_of}
use Rattle.db_check.specs.Around.{own_in}
use Rattle.db_check.specs.First.{first}
use Rattle.db_check.specs.Layer.{own_at, inside_at, lines_of_cases, lines_of_other}
use Rattle.db_check.specs.Own.{cause_of}
use Rattle.db_check.proofs.FirstFault.{first_append, step_on, at_end}
use Rattle.db_check.proofs.Layers.{one_layer, inside_block, inside_loop, inside_switch, inside_if}
use Rattle.db_check.proofs.walk.+walk.Goals as goal

pub of_element-returns : goal.of_element-returns
of_element-returns t c =
    let own = own_in c.args.around.now c.args.kind in
    let k = cause_of c.args.kind in
    c.earlier.ensures ∙ ((λ i. earlier (c.own.ensures i) (c.inside.ensures i))
    ∙ (sym (first_append k (own_at own c.args.element.now) (inside_at own c.args.element.now)) ∙ ap (first k) (sym (one_layer own c.args.element.now))))

pub inside-returns-in-Block : goal.inside-returns-in-Block
inside-returns-in-Block t c =
    let own = own_in c.args.around.now c.args.kind in
    let k = cause_of c.args.kind in
    (c.of_list.ensures ∙ ap (λ l. first k (over (lines_of own) l)) c.as_slice.ensures)
    ∙ ap (first k) (sym (inside_block own c.in-Block.line c.in-Block.name c.in-Block.longname c.in-Block.body) ∙ ap (inside_at own) (sym c.in-Block.is))

pub inside-returns-in-Loop : goal.inside-returns-in-Loop
inside-returns-in-Loop t c =
    let own = own_in c.args.around.now c.args.kind in
    let k = cause_of c.args.kind in
    (c.of_list-in-Loop.ensures ∙ ap (λ l. first k (over (lines_of own) l)) c.as_slice-in-Loop.ensures)
    ∙ ap (first k) (sym (inside_loop own c.in-Loop.line c.in-Loop.kind c.in-Loop.expr c.in-Loop.body) ∙ ap (inside_at own) (sym c.in-Loop.is))

pub inside-returns-in-Switch : goal.inside-returns-in-Switch
inside-returns-in-Switch t c =
    let own = own_in c.args.around.now c.args.kind in
    let k = cause_of c.args.kind in
    c.earlier.ensures ∙ ((λ i. earlier ((c.of_cases.ensures ∙ ap (λ l. first k (lines_of_cases own l)) c.as_slice-in-Switch.ensures) i) (c.of_branch.ensures i))
    ∙ (sym (first_append k (lines_of_cases own c.in-Switch.cases) (lines_of_other own c.in-Switch.otherwise))
    ∙ ap (first k) (sym (inside_switch own c.in-Switch.line c.in-Switch.expr c.in-Switch.cases c.in-Switch.otherwise) ∙ ap (inside_at own) (sym c.in-Switch.is))))

pub inside-returns-in-If : goal.inside-returns-in-If
inside-returns-in-If t c =
    let own = own_in c.args.around.now c.args.kind in
    let k = cause_of c.args.kind in
    c.earlier-in-If.ensures ∙ ((λ i. earlier ((c.of_list-in-If.ensures ∙ ap (λ l. first k (over (lines_of own) l)) c.as_slice-in-If.ensures) i) (c.of_branch-in-If.ensures i))
    ∙ (sym (first_append k (over (lines_of own) c.in-If.if_true) (lines_of_other own c.in-If.if_false))
    ∙ ap (first k) (sym (inside_if own c.in-If.line c.in-If.expr c.in-If.true_line c.in-If.if_true c.in-If.if_false) ∙ ap (inside_at own) (sym c.in-If.is))))

pub of_list-loop-element-preserved : goal.of_list-loop-element-preserved
of_list-loop-element-preserved t c = step_on (lines_of (own_in c.args.around.now c.args.kind)) (cause_of c.args.kind) c.args.elements.now c.loop-element.element-index c.element-item.result c.loop-element.found c.of_element.result c.earlier-found.result _ c.loop-element-test.true c.element-item.is c.of_element.ensures c.earlier-found.ensures c.loop-element.invariant

pub of_list-returns : goal.of_list-returns
of_list-returns t c = at_end (lines_of (own_in c.args.around.now c.args.kind)) (cause_of c.args.kind) c.args.elements.now c.loop-element.element-index c.loop-element.found _ c.loop-element-test.false c.loop-element.invariant

pub of_cases-loop-case-preserved : goal.of_cases-loop-case-preserved
of_cases-loop-case-preserved t c =
    let own = own_in c.args.around.now c.args.kind in
    step_on (λ (k : Case). over (lines_of own) k.body) (cause_of c.args.kind) c.args.cases.now c.loop-case.case-index c.case-item.result c.loop-case.found c.of_list.result c.earlier-found.result _ c.loop-case-test.true c.case-item.is
    (c.of_list.ensures ∙ ap (λ l. first (cause_of c.args.kind) (over (lines_of own) l)) c.as_slice.ensures) c.earlier-found.ensures c.loop-case.invariant

pub of_cases-returns : goal.of_cases-returns
of_cases-returns t c = at_end (λ (k : Case). over (lines_of (own_in c.args.around.now c.args.kind)) k.body) (cause_of c.args.kind) c.args.cases.now c.loop-case.case-index c.loop-case.found _ c.loop-case-test.false c.loop-case.invariant
