use Rattle.engine.proofs.Settling.{settled_texts}
use Rattle.engine.proofs.laws.settled_texts.Goals as goal

pub returns : goal.returns
returns c = settled_texts
