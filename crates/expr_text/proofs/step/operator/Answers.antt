use Rattle.std.proofs.Common.{ap, ◌∙◌, arith}
use Rattle.expr_text.specs.Machine.{join}
use Rattle.expr_text.proofs.Steps.{meant, admitted, not_admitted}
use Rattle.expr_text.proofs.step.operator.Goals as goal

pub returns-then-wanted-level : goal.returns-then-wanted-level
returns-then-wanted-level c = meant _ _ _ _ (admitted c.args.operator _ _ _ (c.in_ok-left.ensures ∙ ap (λ l. join l c.args.e c.args.frames.now) c.left_level.ensures) (omega arith)) c.opened_behind.ensures

pub returns-else-wanted-level : goal.returns-else-wanted-level
returns-else-wanted-level c = not_admitted c.args.operator _ _ _ (c.in_ok-left.ensures ∙ ap (λ l. join l c.args.e c.args.frames.now) c.left_level.ensures) (omega arith)
