use Rattle.std.proofs.Common.{◌≡◌, ◌∙◌, ap, sym, length, List, Option, Some, slice_get}
use Rattle.std.specs.Prelude.{nat_lt}
use Rattle.db_model.specs.declared.database.ColumnDecl.{ColumnDecl}
use Rattle.db_model.specs.declared.database.TableDecl.{TableDecl}
use Rattle.db_model.specs.Names.{column_at}
use Rattle.expr_type.proofs.Declared.{column_in, declared_among}
use Rattle.expr_type.proofs.scope.Scope.has_column.Goals as goal

pub returns-in-Some : goal.returns-in-Some
returns-in-Some c =
    let db = c.args.self.now.database.now in
    let d = c.in-Some.declared.now in
    let found : slice_get db.tables c.table_at-at.result ≡ Some d = sym c.in-Some.ensures.value in
    column_in db c.args.table.now c.args.column.now d (nat_lt c.column_at-place.result (length c.as_slice.result.now))
    (ap (slice_get db.tables) (sym c.table_at-at.ensures.place) ∙ found)
    (ap (λ (l : List ColumnDecl). nat_lt c.column_at-place.result (length l)) c.as_slice.ensures
    ∙ declared_among (λ (x : ColumnDecl). x.name) d.columns c.args.column.now c.column_at-place.result (c.column_at-place.ensures ∙ ap (λ (o : Option TableDecl). column_at o c.args.column.now) found))
