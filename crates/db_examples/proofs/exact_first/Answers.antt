use Rattle.db_examples.proofs.Rules.{exact_first}
use Rattle.db_examples.proofs.exact_first.Goals as goal

pub returns : goal.returns
returns c = exact_first
