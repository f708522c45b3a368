use Rattle.spec_core.proofs.DrainedTexts.{drained_texts}
use Rattle.spec_core.proofs.laws.drained_texts.Goals as goal

pub returns : goal.returns
returns c = drained_texts
