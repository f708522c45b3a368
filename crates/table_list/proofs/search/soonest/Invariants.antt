use Rattle.std.proofs.Common.{◌≡◌, drop}
use Rattle.db_model.specs.Table.{sooner, soonest}
use Rattle.table_list.proofs.search.soonest.Given as goal

abbrev pub invariant-loop-entry : goal.invariant-loop-entry
invariant-loop-entry l = sooner l.least (soonest (drop l.entry-index l.part)) ≡ soonest l.part
