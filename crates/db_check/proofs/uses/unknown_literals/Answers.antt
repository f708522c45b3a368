use Rattle.std.proofs.Common.{◌∙◌, ap}
use Rattle.db_cause.specs.declared.cause.Cause.TheVariants as cause
use Rattle.db_check.specs.First.{first}
use Rattle.db_check.proofs.FirstFault.{step_on, at_end}
use Rattle.db_model.specs.Lines.{at_line}
use Rattle.db_check.specs.Uses.{literal_lines}
use Rattle.db_check.proofs.uses.unknown_literals.Goals as goal

pub loop-variable-preserved : goal.loop-variable-preserved
loop-variable-preserved c = step_on (literal_lines c.args.known.now.database.now) cause.Undeclared c.args.variables.now c.loop-variable.variable-index c.variable-item.result c.loop-variable.found c.at_line.result c.earlier-found.result _ c.loop-variable-test.true c.variable-item.is (c.at_line.ensures ∙ ap (λ b. first cause.Undeclared (at_line c.variable-item.result.line b)) c.literal_is_unknown-wrong.ensures) c.earlier-found.ensures c.loop-variable.invariant

pub returns : goal.returns
returns c = at_end (literal_lines c.args.known.now.database.now) cause.Undeclared c.args.variables.now c.loop-variable.variable-index c.loop-variable.found _ c.loop-variable-test.false c.loop-variable.invariant
