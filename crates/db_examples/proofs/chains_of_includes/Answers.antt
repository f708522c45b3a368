use Rattle.db_examples.proofs.Faults.{chains_of_includes}
use Rattle.db_examples.proofs.chains_of_includes.Goals as goal

pub returns : goal.returns
returns c = chains_of_includes
