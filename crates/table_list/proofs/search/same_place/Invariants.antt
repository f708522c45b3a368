use Rattle.std.proofs.Common.{◌≡◌, drop}
use Rattle.std.specs.Prelude.{find}
use Rattle.db_model.specs.Table.{same_place}
use Rattle.table_list.proofs.search.same_place.Given as goal

abbrev pub invariant-loop-i : goal.invariant-loop-i
invariant-loop-i l = find (same_place l.entry) (drop l.i l.part) ≡ find (same_place l.entry) l.part
