use Rattle.std.proofs.Common.{◌≡◌, map, drop}
use Rattle.db_cause.specs.declared.cause.Cause.TheVariants as cause
use Rattle.db_model.specs.LeastFault.{earlier}
use Rattle.db_model.specs.NameFaults.{repeated}
use Rattle.db_check.specs.First.{first}
use Rattle.db_check.specs.Repeats.{repeated_from}
use Rattle.db_check.proofs.repeats.repeated.Given as goal

abbrev pub invariant-loop-i : goal.invariant-loop-i
invariant-loop-i g l = earlier l.found (first cause.DeclaredAgain (repeated_from (map g.B.Declaration.named l.taken) (map g.T.Declaration.named l.declared) l.i (map (λ d. (g.T.Declaration.named d, g.T.Located.at d)) (drop l.i l.declared)))) ≡ first cause.DeclaredAgain (repeated (map g.B.Declaration.named l.taken) (map (λ d. (g.T.Declaration.named d, g.T.Located.at d)) l.declared))
