use Rattle.db_examples.proofs.Faults.{least_line_first}
use Rattle.db_examples.proofs.least_line_first.Goals as goal

pub returns : goal.returns
returns c = least_line_first
