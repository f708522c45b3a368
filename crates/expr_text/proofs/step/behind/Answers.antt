use Rattle.std.proofs.Common.{sym, ap, ◌∙◌}
use Rattle.expr_text.specs.Machine.{behind}
use Rattle.expr_text.proofs.Steps.{meant}
use Rattle.expr_text.proofs.step.behind.Goals as goal

pub returns-in-Any : goal.returns-in-Any
returns-in-Any c = meant _ _ _ _ (ap (λ n. behind n c.args.e c.args.frames.now c.args.token) (sym c.in-Any.is)) c.go_on.ensures

pub returns-in-Size : goal.returns-in-Size
returns-in-Size c = meant _ _ _ _ (ap (λ n. behind n c.args.e c.args.frames.now c.args.token) (sym c.in-Size.is)) (c.size.ensures _)

pub returns-in-Searched : goal.returns-in-Searched
returns-in-Searched c = meant _ _ _ _ (ap (λ n. behind n c.args.e c.args.frames.now c.args.token) (sym c.in-Searched.is)) (c.searched.ensures _)

pub returns-in-Closes : goal.returns-in-Closes
returns-in-Closes c = c.closes.ensures _ ∙ ap (λ n. behind n c.args.e c.args.frames.now c.args.token) (sym c.in-Closes.is)
