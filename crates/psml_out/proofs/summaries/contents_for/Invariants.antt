use Rattle.std.proofs.Common.{◌≡◌, take}
use Rattle.psml_out.specs.Summaries.{contents_for}
use Rattle.psml_out.proofs.summaries.contents_for.Given as goal

abbrev pub invariant-loop-piece : goal.invariant-loop-piece
invariant-loop-piece l = l.all ≡ contents_for l.section (take l.piece-index l.pieces)
