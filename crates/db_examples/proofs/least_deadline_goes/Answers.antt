use Rattle.db_examples.proofs.Rules.{least_deadline_goes}
use Rattle.db_examples.proofs.least_deadline_goes.Goals as goal

pub returns : goal.returns
returns c = least_deadline_goes
