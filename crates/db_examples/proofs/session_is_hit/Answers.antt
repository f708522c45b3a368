use Rattle.db_examples.proofs.Worked.{session_is_hit}
use Rattle.db_examples.proofs.session_is_hit.Goals as goal

pub returns : goal.returns
returns c = session_is_hit
