use Rattle.std.proofs.Common.{◌∙◌}
use Rattle.db_check.specs.First.{first}
use Rattle.db_check.proofs.FirstFault.{step_on, at_end}
use Rattle.db_model.specs.Lines.{at_line}
use Rattle.db_check.specs.Own.{cause_of, case_lines}
use Rattle.db_check.proofs.own.of_cases.Goals as goal

pub loop-case-preserved : goal.loop-case-preserved
loop-case-preserved c = step_on (case_lines c.args.kind) (cause_of c.args.kind) c.args.cases.now c.loop-case.case-index c.case-item.result c.loop-case.found c.at_line.result c.earlier-found.result _ c.loop-case-test.true c.case-item.is (c.at_line.ensures ∙ (λ i. first (c.cause.ensures i) (at_line c.case-item.result.line (c.case_fails-wrong.ensures i)))) c.earlier-found.ensures c.loop-case.invariant

pub returns : goal.returns
returns c = at_end (case_lines c.args.kind) (cause_of c.args.kind) c.args.cases.now c.loop-case.case-index c.loop-case.found _ c.loop-case-test.false c.loop-case.invariant
