use Rattle.db_examples.proofs.Rules.{key_before_question}
use Rattle.db_examples.proofs.key_before_question.Goals as goal

pub returns : goal.returns
returns c = key_before_question
