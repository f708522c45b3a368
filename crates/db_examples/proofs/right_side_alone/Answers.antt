use Rattle.db_examples.proofs.Worked.{right_side_alone}
use Rattle.db_examples.proofs.right_side_alone.Goals as goal

pub returns : goal.returns
returns c = right_side_alone
