use Rattle.db_examples.proofs.Worked.{full_table}
use Rattle.db_examples.proofs.full_table.Goals as goal

pub returns : goal.returns
returns c = full_table
