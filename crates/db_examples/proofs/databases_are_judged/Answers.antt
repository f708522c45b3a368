use Rattle.db_examples.proofs.Judged.{databases_are_judged}
use Rattle.db_examples.proofs.databases_are_judged.Goals as goal

pub returns : goal.returns
returns c = databases_are_judged
