use Rattle.expr_text.proofs.Parsed.{has_answer}
use Rattle.expr_text.proofs.laws.every_text_is_answered.Goals as goal

pub returns : goal.returns
returns c = has_answer
