use Rattle.std.proofs.Common.{sym, ap, ◌∙◌}
use Rattle.db_model.specs.declared.expression.Expr.TheVariants as expr
use Rattle.expr_text.specs.Machine.{has, close_in}
use Rattle.expr_text.proofs.Steps.{meant}
use Rattle.expr_text.proofs.step.close_in.Goals as goal

pub returns-in-Argument : goal.returns-in-Argument
returns-in-Argument c = λ k. meant _ _ _ _ (ap (λ b. close_in b c.args.parts c.args.e k) (sym c.in-Argument.is)) (c.close_call.ensures k)

pub returns-in_ok-push-in-Key : goal.returns-in_ok-push-in-Key
returns-in_ok-push-in-Key c = λ k. ap (λ keys. has (expr.LookUp c.in-Key.table c.in-Key.renew keys) k) c.in_ok-push-in-Key.ensures.ok ∙ ap (λ b. close_in b c.args.parts c.args.e k) (sym c.in-Key.is)
