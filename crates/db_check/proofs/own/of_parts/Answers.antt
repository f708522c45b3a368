use Rattle.std.proofs.Common.{◌≡◌, ◌∙◌, ap, sym, slice_get}
use Rattle.db_model.specs.LeastFault.{earlier}
use Rattle.db_model.specs.Lines.{over}
use Rattle.db_model.specs.NameFaults.{block_names}
use Rattle.db_model.specs.Names.{table_at}
use Rattle.db_model.specs.TypeFaults.{column_wants}
use Rattle.db_model.specs.Typing.{columns_in}
use Rattle.db_check.specs.First.{first}
use Rattle.db_check.specs.Own.{cause_of, key_lines, value_lines}
use Rattle.db_check.proofs.FirstFault.{first_append}
use Rattle.db_check.proofs.own.of_parts.Goals as goal

pub returns : goal.returns
returns c =
    let db = c.args.around.now.scope.database.now in
    let fields = c.args.around.now.scope.fields.now in
    let blocks = block_names c.args.around.now.protocol.now in
    let k = cause_of c.args.kind in
    let keys = key_lines db fields blocks c.args.kind in
    let values = value_lines db fields blocks c.args.kind in
    let columns : c.columns_of-columns.result.now ≡ columns_in (slice_get db.tables (table_at db c.args.update.now.table.now)) =
    c.columns_of-columns.ensures ∙ ap columns_in (c.get.ensures.value ∙ ap (slice_get db.tables) (c.table_at-at.ensures.place ∙ ap (table_at db) c.as_slice.ensures.bytes)) in
    c.earlier.ensures
    ∙ ((λ i. earlier (c.of_keys.ensures i) ((c.of_row.ensures ∙ ap (λ l. first k (over values (column_wants l c.args.update.now.row.now))) columns) i))
    ∙ sym (first_append k (over keys c.args.update.now.keys.now) (over values (column_wants (columns_in (slice_get db.tables (table_at db c.args.update.now.table.now))) c.args.update.now.row.now))))
