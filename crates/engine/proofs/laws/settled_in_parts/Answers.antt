use Rattle.engine.proofs.Settling.{settled_in_parts}
use Rattle.engine.proofs.laws.settled_in_parts.Goals as goal

pub returns : goal.returns
returns c = settled_in_parts
