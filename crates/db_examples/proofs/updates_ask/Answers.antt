use Rattle.db_examples.proofs.Tables.{updates_ask}
use Rattle.db_examples.proofs.updates_ask.Goals as goal

pub returns : goal.returns
returns c = updates_ask
