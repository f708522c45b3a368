use Rattle.db_examples.proofs.Judged.{sizes_are_typed}
use Rattle.db_examples.proofs.sizes_are_typed.Goals as goal

pub returns : goal.returns
returns c = sizes_are_typed
