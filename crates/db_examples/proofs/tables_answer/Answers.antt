use Rattle.db_examples.proofs.Tables.{tables_answer}
use Rattle.db_examples.proofs.tables_answer.Goals as goal

pub returns : goal.returns
returns c = tables_answer
