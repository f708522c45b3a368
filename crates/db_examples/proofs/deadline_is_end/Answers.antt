use Rattle.db_examples.proofs.Worked.{deadline_is_end}
use Rattle.db_examples.proofs.deadline_is_end.Goals as goal

pub returns : goal.returns
returns c = deadline_is_end
