use Rattle.std.proofs.Common.{◌≡◌, drop}
use Rattle.npd_words.specs.Names
use Rattle.npd_words.proofs.names.has_same.Given as goal

abbrev pub invariant-loop-one : goal.invariant-loop-one
invariant-loop-one l = Names.has_same (drop l.one-index l.given) l.other ≡ Names.has_same l.given l.other
