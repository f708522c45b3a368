use Rattle.std.proofs.Common.{◌≡◌, drop}
use Rattle.db_cause.specs.declared.cause.Cause.TheVariants as cause
use Rattle.db_model.specs.LeastFault.{earlier}
use Rattle.db_model.specs.Lines.{over}
use Rattle.db_model.specs.NumberFaults.{template_43}
use Rattle.db_check.specs.First.{first}
use Rattle.db_check.proofs.numbers.of_templates.Given as goal

abbrev pub invariant-loop-template : goal.invariant-loop-template
invariant-loop-template l = earlier l.found (first cause.OutOfLimits (over template_43 (drop l.template-index l.templates))) ≡ first cause.OutOfLimits (over template_43 l.templates)
