use Rattle.std.proofs.Common.{ap, sym, ◌∙◌}
use Rattle.db_model.specs.Typing.{or_mistyped}
use Rattle.expr_type.proofs.Answer.{undeclared_first, arity_next, type_last, ok_or_is}
use Rattle.expr_type.proofs.type_of.Goals as goal

pub returns-then-has_undeclared : goal.returns-then-has_undeclared
returns-then-has_undeclared c = undeclared_first c.args.scope.now.database.now c.args.scope.now.fields.now c.args.e.now (sym c.has_undeclared.ensures ∙ c.if-has_undeclared.true)

pub returns-then-has_wrong_arity : goal.returns-then-has_wrong_arity
returns-then-has_wrong_arity c = arity_next c.args.scope.now.database.now c.args.scope.now.fields.now c.args.e.now (sym c.has_undeclared.ensures ∙ c.if-has_undeclared.false) (sym c.has_wrong_arity.ensures ∙ c.if-has_wrong_arity.true)

pub returns : goal.returns
returns c = (c.ok_or.ensures.value ∙ (ok_or_is c.type_by.result ∙ ap or_mistyped c.type_by.ensures)) ∙ type_last c.args.scope.now.database.now c.args.scope.now.fields.now c.args.e.now (sym c.has_undeclared.ensures ∙ c.if-has_undeclared.false) (sym c.has_wrong_arity.ensures ∙ c.if-has_wrong_arity.false)
