use Rattle.db_laws.proofs.LawsHold.{includes_end}
use Rattle.db_laws.proofs.includes_end.Goals as goal

pub returns : goal.returns
returns c = includes_end
