use Rattle.std.proofs.Common.{◌≡◌, drop}
use Rattle.npd_words.specs.Options
use Rattle.npd_words.proofs.given.row_of.Given as goal

abbrev pub invariant-loop-row : goal.invariant-loop-row
invariant-loop-row l = Options.row_of (drop l.row-index l.rows) l.name ≡ Options.row_of l.rows l.name
