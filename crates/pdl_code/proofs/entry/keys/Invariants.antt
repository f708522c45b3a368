use Rattle.std.proofs.Common.{◌≡◌, ◌++◌, drop, map}
use Rattle.pdl_code.specs.Coding.{key_code}
use Rattle.pdl_code.proofs.entry.keys.Given as goal

abbrev pub invariant-loop-x : goal.invariant-loop-x
invariant-loop-x l = l.codes ++ map (key_code l.scope.db.now l.scope.protocol) (drop l.x-index l.of) ≡ map (key_code l.scope.db.now l.scope.protocol) l.of
