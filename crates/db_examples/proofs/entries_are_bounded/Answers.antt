use Rattle.db_examples.proofs.Faults.{entries_are_bounded}
use Rattle.db_examples.proofs.entries_are_bounded.Goals as goal

pub returns : goal.returns
returns c = entries_are_bounded
