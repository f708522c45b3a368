use Rattle.db_laws.proofs.PlainElements.{taken_itself}
use Rattle.db_laws.proofs.taken_as_itself.Goals as goal

pub returns : goal.returns
returns c = taken_itself
