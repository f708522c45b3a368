use Rattle.db_examples.proofs.Worked.{turns_end}
use Rattle.db_examples.proofs.turns_end.Goals as goal

pub returns : goal.returns
returns c = turns_end
