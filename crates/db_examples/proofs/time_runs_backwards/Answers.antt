use Rattle.db_examples.proofs.Worked.{time_runs_backwards}
use Rattle.db_examples.proofs.time_runs_backwards.Goals as goal

pub returns : goal.returns
returns c = time_runs_backwards
