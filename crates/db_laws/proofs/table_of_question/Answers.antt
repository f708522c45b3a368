use Rattle.db_laws.proofs.Fitted.{table_of_question}
use Rattle.db_laws.proofs.table_of_question.Goals as goal

pub returns : goal.returns
returns c = table_of_question
