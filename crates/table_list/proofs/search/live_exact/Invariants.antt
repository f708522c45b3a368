use Rattle.std.proofs.Common.{◌≡◌, drop}
use Rattle.std.specs.Prelude.{find}
use Rattle.db_model.specs.Table.{same_keys}
use Rattle.table_list.proofs.search.live_exact.Given as goal

abbrev pub invariant-loop-i : goal.invariant-loop-i
invariant-loop-i l = find (λ e. same_keys l.keys e.keys) (drop l.i l.exact) ≡ find (λ e. same_keys l.keys e.keys) l.exact
