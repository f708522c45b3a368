use Rattle.db_examples.proofs.Elements.{extents_end}
use Rattle.db_examples.proofs.extents_end.Goals as goal

pub returns : goal.returns
returns c = extents_end
