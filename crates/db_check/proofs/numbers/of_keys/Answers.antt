use Rattle.std.proofs.Common.{◌∙◌, ap}
use Rattle.db_cause.specs.declared.cause.Cause.TheVariants as cause
use Rattle.db_check.specs.First.{first}
use Rattle.db_check.proofs.FirstFault.{step_on, at_end}
use Rattle.db_model.specs.Lines.{at_line}
use Rattle.db_model.specs.NumberFaults.{key_43}
use Rattle.db_check.proofs.numbers.of_keys.Goals as goal

pub loop-key-preserved : goal.loop-key-preserved
loop-key-preserved c = step_on key_43 cause.OutOfLimits c.args.keys.now c.loop-key.key-index c.key-item.result c.loop-key.found c.at_line.result c.earlier-found.result _ c.loop-key-test.true c.key-item.is (c.at_line.ensures ∙ ap (λ b. first cause.OutOfLimits (at_line c.key-item.result.line b)) c.is_outside-wrong.ensures) c.earlier-found.ensures c.loop-key.invariant

pub returns : goal.returns
returns c = at_end key_43 cause.OutOfLimits c.args.keys.now c.loop-key.key-index c.loop-key.found _ c.loop-key-test.false c.loop-key.invariant
