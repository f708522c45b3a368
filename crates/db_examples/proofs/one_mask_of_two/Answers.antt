use Rattle.db_examples.proofs.Tables.{one_mask_of_two}
use Rattle.db_examples.proofs.one_mask_of_two.Goals as goal

pub returns : goal.returns
returns c = one_mask_of_two
