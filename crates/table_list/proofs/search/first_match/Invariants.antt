use Rattle.std.proofs.Common.{◌≡◌, ◌&&◌, drop}
use Rattle.std.specs.Prelude.{find}
use Rattle.db_model.specs.Table.{live, matches}
use Rattle.table_list.proofs.search.first_match.Given as goal

abbrev pub invariant-loop-i : goal.invariant-loop-i
invariant-loop-i l = find (λ e. live e l.t && matches e l.keys) (drop l.i l.masked) ≡ find (λ e. live e l.t && matches e l.keys) l.masked
