use Rattle.expr_text.proofs.Parsed.{parsed_text, text_parsed}
use Rattle.expr_text.proofs.laws.parsed_is_text.Goals as goal

pub returns : goal.returns
returns c = λ bytes e. (parsed_text bytes e, text_parsed bytes e)
