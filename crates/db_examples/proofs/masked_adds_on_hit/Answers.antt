use Rattle.db_examples.proofs.Worked.{masked_adds_on_hit}
use Rattle.db_examples.proofs.masked_adds_on_hit.Goals as goal

pub returns : goal.returns
returns c = masked_adds_on_hit
