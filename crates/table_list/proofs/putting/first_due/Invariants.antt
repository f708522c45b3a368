use Rattle.std.proofs.Common.{◌≡◌, ◌++◌, take, drop}
use Rattle.db_model.specs.Table.{evict}
use Rattle.table_list.proofs.putting.first_due.Given as goal

abbrev pub invariant-loop-i : goal.invariant-loop-i
invariant-loop-i l = take l.i l.part ++ evict l.deadline (drop l.i l.part) ≡ evict l.deadline l.part
