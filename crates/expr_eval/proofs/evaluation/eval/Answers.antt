use Rattle.expr_eval.proofs.Steps.{handed}
use Rattle.expr_eval.proofs.evaluation.eval.Goals as goal

pub returns-clause-value : goal.returns-clause-value
returns-clause-value g c = handed c.args.db.now c.in_ok-operand.operand c.into_value.result c.in_ok-operand.ensures.value c.into_value.ensures
