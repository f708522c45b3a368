use Rattle.db_examples.proofs.Faults.{faults_are_found}
use Rattle.db_examples.proofs.faults_are_found.Goals as goal

pub returns : goal.returns
returns c = faults_are_found
