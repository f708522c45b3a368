use Rattle.std.proofs.Common.{◌∙◌, ap}
use Rattle.db_cause.specs.declared.cause.Cause.TheVariants as cause
use Rattle.db_check.specs.First.{first}
use Rattle.db_check.proofs.FirstFault.{step_on, at_end}
use Rattle.db_model.specs.Lines.{at_line}
use Rattle.db_check.specs.Uses.{type_lines}
use Rattle.db_check.proofs.uses.wrong_literals.Goals as goal

pub loop-variable-preserved : goal.loop-variable-preserved
loop-variable-preserved c = step_on (type_lines c.args.known.now.database.now) cause.WrongType c.args.variables.now c.loop-variable.variable-index c.variable-item.result c.loop-variable.found c.at_line.result c.earlier-found.result _ c.loop-variable-test.true c.variable-item.is (c.at_line.ensures ∙ ap (λ b. first cause.WrongType (at_line c.variable-item.result.line b)) c.literal_is_wrong-wrong.ensures) c.earlier-found.ensures c.loop-variable.invariant

pub returns : goal.returns
returns c = at_end (type_lines c.args.known.now.database.now) cause.WrongType c.args.variables.now c.loop-variable.variable-index c.loop-variable.found _ c.loop-variable-test.false c.loop-variable.invariant
