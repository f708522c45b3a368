use Rattle.std.proofs.Common.{◌≡◌, List, map, subst}
use Rattle.db_model.specs.declared.database.ColumnDecl.{ColumnDecl}
use Rattle.db_model.specs.NameIndex.{IsPlaces, column_names}
use Rattle.db_model.proofs.Placed.{walk_places}
use Rattle.db_model.proofs.name_index.columns_of.Goals as goal

pub loop-table-preserved : goal.loop-table-preserved
loop-table-preserved c =
    walk_places column_names c.args.tables.now c.loop-table.table-index c.table-item.result c.loop-table.all c.push.new.self c.in_ok-of.field-0 c.loop-table-test.true c.table-item.is c.loop-table.invariant
    (subst (λ (l : List ColumnDecl). IsPlaces (map (λ (d : ColumnDecl). d.name) l) c.in_ok-of.field-0) c.as_slice.ensures c.in_ok-of.ensures) c.in_ok-push.ensures.pushed
