use Rattle.std.proofs.Common.{◌∙◌, ap, length, List}
use Rattle.std.specs.Prelude.{nat_lt}
use Rattle.db_model.specs.declared.database.VarDecl.{VarDecl}
use Rattle.expr_type.proofs.Declared.{declared_among}
use Rattle.expr_type.proofs.scope.Scope.declares_variable.Goals as goal

pub returns : goal.returns
returns c =
    ap (λ (l : List VarDecl). nat_lt c.variable_at-place.result (length l)) c.as_slice.ensures
    ∙ declared_among (λ (d : VarDecl). d.name) c.args.self.now.database.now.variables c.args.name.now c.variable_at-place.result c.variable_at-place.ensures.place
