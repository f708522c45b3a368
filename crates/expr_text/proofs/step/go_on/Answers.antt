use Rattle.std.proofs.Common.{sym, ap, ◌∙◌}
use Rattle.expr_text.specs.declared.token.Token.TheVariants as token
use Rattle.expr_text.specs.Machine.{go_on, ended_by}
use Rattle.expr_text.proofs.Steps.{meant}
use Rattle.expr_text.proofs.step.go_on.Goals as goal

pub returns-in-Operator : goal.returns-in-Operator
returns-in-Operator c = meant _ _ _ _ (ap (go_on c.args.e c.args.frames.now) (sym c.in-Operator.is)) c.operator.ensures

pub returns-in-OpenBracket : goal.returns-in-OpenBracket
returns-in-OpenBracket c = meant _ _ _ _ (ap (go_on c.args.e c.args.frames.now) (sym c.in-OpenBracket.is)) c.opened_behind.ensures

pub returns-in_ok-whole-in-Close : goal.returns-in_ok-whole-in-Close
returns-in_ok-whole-in-Close c = meant _ _ _ _ (ap (λ j. ended_by j token.Close) c.in_ok-whole-in-Close.ensures ∙ ap (go_on c.args.e c.args.frames.now) (sym c.in-Close.is)) c.close.ensures

pub returns-in_ok-whole-in-Comma : goal.returns-in_ok-whole-in-Comma
returns-in_ok-whole-in-Comma c = meant _ _ _ _ (ap (λ j. ended_by j token.Comma) c.in_ok-whole-in-Comma.ensures ∙ ap (go_on c.args.e c.args.frames.now) (sym c.in-Comma.is)) c.comma.ensures

pub returns-in_ok-whole-in-Colon : goal.returns-in_ok-whole-in-Colon
returns-in_ok-whole-in-Colon c = meant _ _ _ _ (ap (λ j. ended_by j token.Colon) c.in_ok-whole-in-Colon.ensures ∙ ap (go_on c.args.e c.args.frames.now) (sym c.in-Colon.is)) c.colon.ensures

pub returns-in_ok-whole-in-CloseBracket : goal.returns-in_ok-whole-in-CloseBracket
returns-in_ok-whole-in-CloseBracket c = meant _ _ _ _ (ap (λ j. ended_by j token.CloseBracket) c.in_ok-whole-in-CloseBracket.ensures ∙ ap (go_on c.args.e c.args.frames.now) (sym c.in-CloseBracket.is)) c.close_bracket.ensures
