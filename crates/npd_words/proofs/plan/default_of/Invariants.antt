use Rattle.std.proofs.Common.{◌≡◌, drop}
use Rattle.npd_words.specs.Plans
use Rattle.npd_words.proofs.plan.default_of.Given as goal

abbrev pub invariant-loop-row : goal.invariant-loop-row
invariant-loop-row l = Plans.default_of (drop l.row-index l.rows) l.option ≡ Plans.default_of l.rows l.option
