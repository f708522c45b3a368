use Rattle.std.proofs.Common.{◌≡◌, max, map, drop}
use Rattle.table_list.specs.Space.{widest, column_width}
use Rattle.table_list.proofs.space.widest_column.Given as goal

abbrev pub invariant-loop-column : goal.invariant-loop-column
invariant-loop-column l = max l.width (widest (map column_width (drop l.column-index l.columns))) ≡ widest (map column_width l.columns)
