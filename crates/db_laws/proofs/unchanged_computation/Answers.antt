use Rattle.db_laws.proofs.LawsHold.{unchanged_computation}
use Rattle.db_laws.proofs.unchanged_computation.Goals as goal

pub returns : goal.returns
returns g c = unchanged_computation _ _
