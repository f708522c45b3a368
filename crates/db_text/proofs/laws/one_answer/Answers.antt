use Rattle.db_text.proofs.Outcomes.{has_answer, one_element, text_not_refused, one_refusal}
use Rattle.db_text.proofs.laws.one_answer.Goals as goal

pub returns-clause-some : goal.returns-clause-some
returns-clause-some c = has_answer

pub returns-clause-elements : goal.returns-clause-elements
returns-clause-elements c = λ bytes n m t u. one_element bytes n m t.spelled u.spelled

pub returns-clause-refused : goal.returns-clause-refused
returns-clause-refused c = text_not_refused

pub returns-clause-faults : goal.returns-clause-faults
returns-clause-faults c = one_refusal
