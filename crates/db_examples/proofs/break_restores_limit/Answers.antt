use Rattle.db_examples.proofs.Rules.{break_restores_limit}
use Rattle.db_examples.proofs.break_restores_limit.Goals as goal

pub returns : goal.returns
returns c = break_restores_limit
