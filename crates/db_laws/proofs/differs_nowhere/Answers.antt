use Rattle.db_laws.proofs.LawsHold.{differs_nowhere}
use Rattle.db_laws.proofs.differs_nowhere.Goals as goal

pub returns : goal.returns
returns c = differs_nowhere
