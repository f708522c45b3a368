use Rattle.db_examples.proofs.Faults.{circles_are_found}
use Rattle.db_examples.proofs.circles_are_found.Goals as goal

pub returns : goal.returns
returns c = circles_are_found
