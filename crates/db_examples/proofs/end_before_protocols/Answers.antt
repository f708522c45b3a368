use Rattle.db_examples.proofs.Rules.{end_before_protocols}
use Rattle.db_examples.proofs.end_before_protocols.Goals as goal

pub returns : goal.returns
returns c = end_before_protocols
