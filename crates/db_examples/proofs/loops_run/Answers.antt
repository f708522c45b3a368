use Rattle.db_examples.proofs.Elements.{loops_run}
use Rattle.db_examples.proofs.loops_run.Goals as goal

pub returns : goal.returns
returns c = loops_run
