use Rattle.std.proofs.Common.{◌≡◌, map, take}
use Rattle.table_list.specs.State.{new_table}
use Rattle.session.proofs.tables.new.Given as goal

abbrev pub invariant-loop-declaration : goal.invariant-loop-declaration
invariant-loop-declaration l = l.tables.items ≡ map new_table (take l.declaration-index l.declarations)
