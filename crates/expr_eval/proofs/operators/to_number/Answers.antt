use Rattle.expr_eval.proofs.operators.to_number.Goals as goal

pub returns : goal.returns
returns c = rw c.bytes.ensures.bytes at c.to_number.ensures
