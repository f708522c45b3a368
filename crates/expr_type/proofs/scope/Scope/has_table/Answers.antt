use Rattle.std.proofs.Common.{◌∙◌, ap, length, List}
use Rattle.std.specs.Prelude.{nat_lt}
use Rattle.db_model.specs.declared.database.TableDecl.{TableDecl}
use Rattle.expr_type.proofs.Declared.{declared_among}
use Rattle.expr_type.proofs.scope.Scope.has_table.Goals as goal

pub returns : goal.returns
returns c =
    ap (λ (l : List TableDecl). nat_lt c.table_at-place.result (length l)) c.as_slice.ensures
    ∙ declared_among (λ (d : TableDecl). d.name) c.args.self.now.database.now.tables c.args.name.now c.table_at-place.result c.table_at-place.ensures.place
