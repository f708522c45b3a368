use Rattle.std.proofs.Common.{◌≡◌}
use Rattle.psml_out.specs.Summaries.{by_section}
use Rattle.psml_out.proofs.summaries.by_section.Given as goal

abbrev pub invariant-loop-section : goal.invariant-loop-section
invariant-loop-section l = l.all ≡ by_section l.section l.pieces
