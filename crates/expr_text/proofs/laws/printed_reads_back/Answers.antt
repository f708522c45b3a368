use Rattle.std.proofs.Common.{subst, refl}
use Rattle.expr_text.specs.Printing.{printed}
use Rattle.expr_text.specs.Refusal.{IsSpelled, too_long}
use Rattle.expr_text.proofs.Outcomes.{one_text}
use Rattle.expr_text.proofs.ReadsBack.{form_spelled, expression_form}
use Rattle.expr_text.proofs.WellFormed.{spelled_form}
use Rattle.expr_text.proofs.laws.printed_reads_back.Goals as goal

pub returns-clause-back : goal.returns-clause-back
returns-clause-back c = λ e h. form_spelled e (expression_form e h).0

pub returns-clause-spelled : goal.returns-clause-spelled
returns-clause-spelled c = λ e bytes s. form_spelled e (spelled_form bytes e s)

pub returns-clause-apart : goal.returns-clause-apart
returns-clause-apart c = λ d e bytes others g h q. one_text (printed e) d e (subst (λ bs. IsSpelled bs d) q (form_spelled d (spelled_form bytes d g))) (form_spelled e (spelled_form others e h))

pub returns-clause-texts : goal.returns-clause-texts
returns-clause-texts c = λ e h w. let p = expression_form e h in record { within = w; spelled = form_spelled e p.0; small = p.1 }

pub returns-clause-long : goal.returns-clause-long
returns-clause-long c = λ e l. too_long l refl refl
