use Rattle.std.proofs.Common.{◌≡◌, drop}
use Rattle.npd_words.specs.Options
use Rattle.npd_words.proofs.given.value_of.Given as goal

abbrev pub invariant-loop-one : goal.invariant-loop-one
invariant-loop-one l = Options.value_of (drop l.one-index l.given) l.option ≡ Options.value_of l.given l.option
