use Rattle.expr_text.proofs.WellFormed.{well_formed}
use Rattle.expr_text.proofs.laws.texts_are_well_formed.Goals as goal

pub returns : goal.returns
returns c = well_formed
