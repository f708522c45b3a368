use Rattle.std.proofs.Common.{◌≡◌, drop}
use Rattle.db_model.specs.LeastFault.{earlier}
use Rattle.db_model.specs.Lines.{over}
use Rattle.db_model.specs.NameFaults.{block_names}
use Rattle.db_model.specs.TypeFaults.{column_wants}
use Rattle.db_check.specs.First.{first}
use Rattle.db_check.specs.Own.{cause_of, value_lines}
use Rattle.db_check.proofs.own.of_row.Given as goal

abbrev pub invariant-loop-i : goal.invariant-loop-i
invariant-loop-i l = earlier l.found (first (cause_of l.kind) (over (value_lines l.around.scope.database.now l.around.scope.fields.now (block_names l.around.protocol.now) l.kind) (column_wants (drop l.i l.columns) (drop l.i l.row)))) ≡ first (cause_of l.kind) (over (value_lines l.around.scope.database.now l.around.scope.fields.now (block_names l.around.protocol.now) l.kind) (column_wants l.columns l.row))
