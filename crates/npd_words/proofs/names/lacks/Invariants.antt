use Rattle.std.proofs.Common.{◌≡◌, drop}
use Rattle.npd_words.specs.Names
use Rattle.npd_words.proofs.names.lacks.Given as goal

abbrev pub invariant-loop-row : goal.invariant-loop-row
invariant-loop-row l = Names.lacks l.given (drop l.row-index l.rows) ≡ Names.lacks l.given l.rows
