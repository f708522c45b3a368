use Rattle.std.proofs.Common.{◌∙◌}
use Rattle.expr_eval.proofs.Bytes.{found_occurs}
use Rattle.expr_eval.proofs.values.has_text.Goals as goal

pub returns : goal.returns
returns c = c.is_some.ensures ∙ found_occurs c.args.text.now c.args.within.now c.find.result c.find.ensures
