use Rattle.db_examples.proofs.Expressions.{operators_give}
use Rattle.db_examples.proofs.operators_give.Goals as goal

pub returns : goal.returns
returns c = operators_give
