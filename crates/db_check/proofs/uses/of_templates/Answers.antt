use Rattle.std.proofs.Common.{◌∙◌, ap}
use Rattle.db_cause.specs.declared.cause.Cause.TheVariants as cause
use Rattle.db_check.specs.First.{first}
use Rattle.db_check.proofs.FirstFault.{step_on, at_end}
use Rattle.db_model.specs.Lines.{over}
use Rattle.db_model.specs.NameFaults.{item_41}
use Rattle.db_check.specs.Uses.{template_lines}
use Rattle.db_check.proofs.uses.of_templates.Goals as goal

pub loop-template-preserved : goal.loop-template-preserved
loop-template-preserved c = step_on (template_lines c.args.known.now.database.now) cause.Undeclared c.args.templates.now c.loop-template.template-index c.template-item.result c.loop-template.found c.of_items.result c.earlier-found.result _ c.loop-template-test.true c.template-item.is (c.of_items.ensures ∙ ap (λ l. first cause.Undeclared (over (item_41 c.args.known.now.database.now) l)) c.as_slice.ensures) c.earlier-found.ensures c.loop-template.invariant

pub returns : goal.returns
returns c = at_end (template_lines c.args.known.now.database.now) cause.Undeclared c.args.templates.now c.loop-template.template-index c.loop-template.found _ c.loop-template-test.false c.loop-template.invariant
