use Rattle.std.proofs.Common.{◌∙◌, ap}
use Rattle.db_cause.specs.declared.cause.Cause.TheVariants as cause
use Rattle.db_check.specs.First.{first}
use Rattle.db_check.proofs.FirstFault.{step_on, at_end}
use Rattle.db_model.specs.Lines.{at_line}
use Rattle.db_model.specs.NumberFaults.{column_43}
use Rattle.db_check.proofs.numbers.of_columns.Goals as goal

pub loop-column-preserved : goal.loop-column-preserved
loop-column-preserved c = step_on column_43 cause.OutOfLimits c.args.columns.now c.loop-column.column-index c.column-item.result c.loop-column.found c.at_line.result c.earlier-found.result _ c.loop-column-test.true c.column-item.is (c.at_line.ensures ∙ ap (λ b. first cause.OutOfLimits (at_line c.column-item.result.line b)) c.size_is_outside-wrong.ensures) c.earlier-found.ensures c.loop-column.invariant

pub returns : goal.returns
returns c = at_end column_43 cause.OutOfLimits c.args.columns.now c.loop-column.column-index c.loop-column.found _ c.loop-column-test.false c.loop-column.invariant
