use Rattle.std.proofs.Common.{map, take}
use Rattle.db_model.specs.NameIndex.{AllPlaces, column_names}
use Rattle.db_model.proofs.name_index.columns_of.Given as goal

abbrev pub invariant-loop-table : goal.invariant-loop-table
invariant-loop-table l = AllPlaces (map column_names (take l.table-index l.tables)) l.all
