use Rattle.std.proofs.Common.{◌≡◌, drop}
use Rattle.npd_words.specs.Options
use Rattle.npd_words.proofs.given.is_given.Given as goal

abbrev pub invariant-loop-one : goal.invariant-loop-one
invariant-loop-one l = Options.is_given (drop l.one-index l.given) l.name ≡ Options.is_given l.given l.name
