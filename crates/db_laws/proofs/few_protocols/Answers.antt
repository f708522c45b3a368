use Rattle.db_laws.proofs.Few.{few_protocols}
use Rattle.db_laws.proofs.few_protocols.Goals as goal

pub returns : goal.returns
returns c = few_protocols
