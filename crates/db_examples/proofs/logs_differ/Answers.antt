use Rattle.db_examples.proofs.Tables.{logs_differ}
use Rattle.db_examples.proofs.logs_differ.Goals as goal

pub returns : goal.returns
returns c = logs_differ
