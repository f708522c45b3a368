use Rattle.std.proofs.Common.{sym, ap}
use Rattle.expr_text.specs.Machine.{close}
use Rattle.expr_text.proofs.Steps.{meant}
use Rattle.expr_text.proofs.step.close.Goals as goal

pub returns-in-Some : goal.returns-in-Some
returns-in-Some c = meant _ _ _ _ (ap (close c.args.e) (sym c.in-Some.ensures.popped)) (c.close_in.ensures _)
