use Rattle.db_examples.proofs.Faults.{blocks_nest}
use Rattle.db_examples.proofs.blocks_nest.Goals as goal

pub returns : goal.returns
returns c = blocks_nest
