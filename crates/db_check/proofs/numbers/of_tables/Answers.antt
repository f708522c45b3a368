use Rattle.std.proofs.Common.{◌∙◌, ◌+◌, ◌-◌, ◌^◌, min, ap}
use Rattle.db_check.proofs.Declarations.{tables_next}
use Rattle.db_check.proofs.numbers.of_tables.Goals as goal

pub loop-table-preserved : goal.loop-table-preserved
loop-table-preserved c =
    tables_next c.args.tables.now c.loop-table.table-index c.table-item.result c.loop-table.before c.saturating_add-before.result c.loop-table.found c.of_table.result c.earlier-found.result _ c.loop-table-test.true c.table-item.is c.of_table.ensures c.earlier-found.ensures
    (c.saturating_add-before.ensures ∙ ap (λ n. min (c.loop-table.before + n) (2 ^ 64 - 1)) c.from.ensures)
    c.loop-table.invariant
