use Rattle.db_examples.proofs.Expressions.{types_fit}
use Rattle.db_examples.proofs.types_fit.Goals as goal

pub returns : goal.returns
returns c = types_fit
