use Rattle.db_examples.proofs.Rules.{block_before_body}
use Rattle.db_examples.proofs.block_before_body.Goals as goal

pub returns : goal.returns
returns c = block_before_body
