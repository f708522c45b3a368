use Rattle.std.proofs.Common.{◌∙◌, ap}
use Rattle.db_cause.specs.declared.cause.Cause.TheVariants as cause
use Rattle.db_check.specs.First.{first}
use Rattle.db_check.proofs.FirstFault.{step_on, at_end}
use Rattle.db_model.specs.Lines.{at_line}
use Rattle.db_model.specs.NumberFaults.{template_43}
use Rattle.db_check.proofs.numbers.of_templates.Goals as goal

pub loop-template-preserved : goal.loop-template-preserved
loop-template-preserved c = step_on template_43 cause.OutOfLimits c.args.templates.now c.loop-template.template-index c.template-item.result c.loop-template.found c.at_line.result c.earlier-found.result _ c.loop-template-test.true c.template-item.is (c.at_line.ensures ∙ ap (λ b. first cause.OutOfLimits (at_line c.template-item.result.line b)) c.group_is_outside-wrong.ensures) c.earlier-found.ensures c.loop-template.invariant

pub returns : goal.returns
returns c = at_end template_43 cause.OutOfLimits c.args.templates.now c.loop-template.template-index c.loop-template.found _ c.loop-template-test.false c.loop-template.invariant
