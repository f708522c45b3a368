use Rattle.db_examples.proofs.Worked.{first_frame}
use Rattle.db_examples.proofs.first_frame.Goals as goal

pub returns : goal.returns
returns c = first_frame
