use Rattle.std.proofs.Common.{◌≡◌, map, length}
use Rattle.db_model.specs.Special.{meant_in}
use Rattle.db_model.proofs.expression.meant_in.Given as goal

abbrev pub invariant-loop-table : goal.invariant-loop-table
invariant-loop-table l = meant_in (map (λ s. (s.0.now, s.1)) l.table) l.name ≡ meant_in (map (λ s. (s.0.now, s.1)) l.fn.table) l.name

abbrev pub decreases-loop-table : goal.decreases-loop-table
decreases-loop-table l = length l.table
