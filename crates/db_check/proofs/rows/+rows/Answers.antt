use Rattle.std.proofs.Common.{◌∙◌, ◌+◌, ◌-◌, ap, sym, map, length, take, drop}
use Rattle.db_cause.specs.declared.cause.Cause.TheVariants as cause
use Rattle.db_model.specs.declared.element.Case.{Case}
use Rattle.db_model.specs.LeastFault.{earlier}
use Rattle.db_model.specs.NumberFaults.{list_44, is_unfollowed}
use Rattle.db_model.specs.Lines.{at_line}
use Rattle.db_check.specs.First.{first}
use Rattle.db_check.specs.Rows.{in_row_of, rows_of_cases, rows_of_other}
use Rattle.db_check.proofs.FirstFault.{first_append, step_on, at_end}
use Rattle.db_check.proofs.InRows.{within_block, within_loop, within_switch, within_if, row_next, behind_is}
use Rattle.db_check.proofs.rows.+rows.Goals as goal

pub within-returns-in-Block : goal.within-returns-in-Block
within-returns-in-Block t c =
    (c.of_list.ensures ∙ ap (λ l. first cause.UnfollowedBits (list_44 l)) c.as_slice.ensures)
    ∙ ap (first cause.UnfollowedBits) (sym (within_block c.in-Block.line c.in-Block.name c.in-Block.longname c.in-Block.body) ∙ ap (λ x. (in_row_of x).within) (sym c.in-Block.is))

pub within-returns-in-Loop : goal.within-returns-in-Loop
within-returns-in-Loop t c =
    (c.of_list-in-Loop.ensures ∙ ap (λ l. first cause.UnfollowedBits (list_44 l)) c.as_slice-in-Loop.ensures)
    ∙ ap (first cause.UnfollowedBits) (sym (within_loop c.in-Loop.line c.in-Loop.kind c.in-Loop.expr c.in-Loop.body) ∙ ap (λ x. (in_row_of x).within) (sym c.in-Loop.is))

pub within-returns-in-Switch : goal.within-returns-in-Switch
within-returns-in-Switch t c =
    c.earlier.ensures ∙ ((λ i. earlier ((c.of_cases.ensures ∙ ap (λ l. first cause.UnfollowedBits (rows_of_cases l)) c.as_slice-in-Switch.ensures) i) (c.of_branch.ensures i))
    ∙ (sym (first_append cause.UnfollowedBits (rows_of_cases c.in-Switch.cases) (rows_of_other c.in-Switch.otherwise))
    ∙ ap (first cause.UnfollowedBits) (sym (within_switch c.in-Switch.line c.in-Switch.expr c.in-Switch.cases c.in-Switch.otherwise) ∙ ap (λ x. (in_row_of x).within) (sym c.in-Switch.is))))

pub within-returns-in-If : goal.within-returns-in-If
within-returns-in-If t c =
    c.earlier-in-If.ensures ∙ ((λ i. earlier ((c.of_list-in-If.ensures ∙ ap (λ l. first cause.UnfollowedBits (list_44 l)) c.as_slice-in-If.ensures) i) (c.of_branch-in-If.ensures i))
    ∙ (sym (first_append cause.UnfollowedBits (list_44 c.in-If.if_true) (rows_of_other c.in-If.if_false))
    ∙ ap (first cause.UnfollowedBits) (sym (within_if c.in-If.line c.in-If.expr c.in-If.true_line c.in-If.if_true c.in-If.if_false) ∙ ap (λ x. (in_row_of x).within) (sym c.in-If.is))))

pub of_cases-loop-case-preserved : goal.of_cases-loop-case-preserved
of_cases-loop-case-preserved t c = step_on (λ (k : Case). list_44 k.body) cause.UnfollowedBits c.args.cases.now c.loop-case.case-index c.case-item.result c.loop-case.found c.of_list.result c.earlier-found.result _ c.loop-case-test.true c.case-item.is (c.of_list.ensures ∙ ap (λ l. first cause.UnfollowedBits (list_44 l)) c.as_slice.ensures) c.earlier-found.ensures c.loop-case.invariant

pub of_cases-returns : goal.of_cases-returns
of_cases-returns t c = at_end (λ (k : Case). list_44 k.body) cause.UnfollowedBits c.args.cases.now c.loop-case.case-index c.loop-case.found _ c.loop-case-test.false c.loop-case.invariant

pub of_list-loop-i-preserved : goal.of_list-loop-i-preserved
of_list-loop-i-preserved t c =
    let behind = take (length c.args.elements.now - (c.loop-i.i + 1)) (drop (c.loop-i.i + 1) c.args.elements.now) in
    row_next c.args.elements.now c.loop-i.i c.index-elements-i.result behind c.loop-i.found c.at_line-own.result c.within.result c.earlier.result c.earlier-found.result _ c.loop-i-test.true c.index-elements-i.is (behind_is c.args.elements.now (c.loop-i.i + 1))
    (c.at_line-own.ensures ∙ (λ j. first cause.UnfollowedBits (at_line (c.line_of.ensures j) ((c.is_unfollowed-wrong.ensures ∙ ap (λ b. is_unfollowed b (map in_row_of behind)) c.bit_of.ensures) j))))
    c.within.ensures c.earlier.ensures c.earlier-found.ensures c.loop-i.invariant
