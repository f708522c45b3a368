use Rattle.db_examples.proofs.Expressions.{names_mean}
use Rattle.db_examples.proofs.names_mean.Goals as goal

pub returns : goal.returns
returns c = names_mean
