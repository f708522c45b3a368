use Rattle.db_examples.proofs.Expressions.{specials_give}
use Rattle.db_examples.proofs.specials_give.Goals as goal

pub returns : goal.returns
returns c = specials_give
