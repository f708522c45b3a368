use Rattle.db_examples.proofs.Worked.{expressions_give}
use Rattle.db_examples.proofs.expressions_give.Goals as goal

pub returns : goal.returns
returns c = expressions_give
