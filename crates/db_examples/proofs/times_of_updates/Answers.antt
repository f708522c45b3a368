use Rattle.db_examples.proofs.Faults.{times_of_updates}
use Rattle.db_examples.proofs.times_of_updates.Goals as goal

pub returns : goal.returns
returns c = times_of_updates
