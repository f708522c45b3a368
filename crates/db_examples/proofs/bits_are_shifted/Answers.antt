use Rattle.db_examples.proofs.Elements.{bits_are_shifted}
use Rattle.db_examples.proofs.bits_are_shifted.Goals as goal

pub returns : goal.returns
returns c = bits_are_shifted
