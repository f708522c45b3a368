use Rattle.expr_text.proofs.Parsed.{is_parsed}
use Rattle.expr_text.proofs.parse.parse_expr.Goals as goal

pub returns-clause-parsed : goal.returns-clause-parsed
returns-clause-parsed c = is_parsed c.args.text.now c.answer.result c.answer.ensures
