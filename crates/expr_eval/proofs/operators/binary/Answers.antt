use Rattle.expr_eval.proofs.operators.binary.Goals as goal

pub returns : goal.returns
returns c = rw c.view-y.ensures at (rw c.view-x.ensures at c.binary.ensures)
