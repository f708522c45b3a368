use Rattle.std.proofs.Common.{◌≡◌, ◌++◌, drop, map}
use Rattle.pdl_code.specs.Coding.{resolved}
use Rattle.pdl_code.proofs.entry.row.Given as goal

abbrev pub invariant-loop-x : goal.invariant-loop-x
invariant-loop-x l = l.codes ++ map (λ v. resolved l.scope.db.now l.scope.protocol v.value) (drop l.x-index l.of) ≡ map (λ v. resolved l.scope.db.now l.scope.protocol v.value) l.of
