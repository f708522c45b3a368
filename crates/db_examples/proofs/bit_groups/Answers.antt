use Rattle.db_examples.proofs.Faults.{bit_groups}
use Rattle.db_examples.proofs.bit_groups.Goals as goal

pub returns : goal.returns
returns c = bit_groups
