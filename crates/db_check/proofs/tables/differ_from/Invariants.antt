use Rattle.std.proofs.Common.{◌≡◌, map, drop}
use Rattle.db_model.specs.TypeFaults.{masks_differ}
use Rattle.db_check.proofs.tables.differ_from.Given as goal

abbrev pub invariant-loop-i : goal.invariant-loop-i
invariant-loop-i l = masks_differ (map (λ k. k.size) (drop l.i l.declared)) (drop l.i l.keys) ≡ masks_differ (map (λ k. k.size) l.declared) l.keys
