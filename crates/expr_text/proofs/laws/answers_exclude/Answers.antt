use Rattle.expr_text.proofs.Finishes.{one_expression}
use Rattle.expr_text.proofs.Outcomes.{one_text, text_not_refused, one_refusal}
use Rattle.expr_text.proofs.laws.answers_exclude.Goals as goal

pub returns-clause-tokens : goal.returns-clause-tokens
returns-clause-tokens c = one_expression

pub returns-clause-texts : goal.returns-clause-texts
returns-clause-texts c = λ bytes e f h g. one_text bytes e f h.spelled g.spelled

pub returns-clause-refused : goal.returns-clause-refused
returns-clause-refused c = text_not_refused

pub returns-clause-faults : goal.returns-clause-faults
returns-clause-faults c = one_refusal
