use Rattle.db_text.proofs.Examples.{empty_elements, lines, values, unsaid, early, stuck}
use Rattle.db_text.proofs.laws.worked_texts.Goals as goal

pub returns-clause-empty : goal.returns-clause-empty
returns-clause-empty c = empty_elements

pub returns-clause-lines : goal.returns-clause-lines
returns-clause-lines c = lines

pub returns-clause-values : goal.returns-clause-values
returns-clause-values c = values

pub returns-clause-unsaid : goal.returns-clause-unsaid
returns-clause-unsaid c = unsaid

pub returns-clause-early : goal.returns-clause-early
returns-clause-early c = early

pub returns-clause-stuck : goal.returns-clause-stuck
returns-clause-stuck c = stuck
