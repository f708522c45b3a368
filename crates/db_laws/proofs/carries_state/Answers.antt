use Rattle.db_laws.proofs.LawsHold.{carries_state}
use Rattle.db_laws.proofs.carries_state.Goals as goal

pub returns : goal.returns
returns g c = carries_state _ _ _
