use Rattle.db_load.proofs.OneAnswer.{has_answer, one_database, excludes_fault, one_fault}
use Rattle.db_load.proofs.laws.each_text_has_one_answer.Goals as goal

pub returns-clause-some : goal.returns-clause-some
returns-clause-some c = has_answer c.one_answer.ensures.some

pub returns-clause-databases : goal.returns-clause-databases
returns-clause-databases c = one_database c.one_answer.ensures.elements

pub returns-clause-faults : goal.returns-clause-faults
returns-clause-faults c = excludes_fault c.one_answer.ensures.elements c.one_answer.ensures.refused

pub returns-clause-lines : goal.returns-clause-lines
returns-clause-lines c = one_fault c.one_answer.ensures.elements c.one_answer.ensures.refused c.one_answer.ensures.faults
