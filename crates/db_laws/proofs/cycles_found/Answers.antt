use Rattle.db_laws.proofs.Cycles.{cycles_found}
use Rattle.db_laws.proofs.cycles_found.Goals as goal

pub returns : goal.returns
returns c = cycles_found
