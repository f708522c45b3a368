use Rattle.std.proofs.Common.{◌≡◌, drop, take, []}
use Rattle.npd_words.specs.Names
use Rattle.npd_words.proofs.names.same_name.Given as goal

abbrev pub invariant-loop-i : goal.invariant-loop-i
invariant-loop-i l = Names.same_name (take l.i l.given) (drop l.i l.given) ≡ Names.same_name [] l.given
