use Rattle.std.proofs.Common.{◌≡◌, ◌++◌, drop}
use Rattle.psml_out.specs.Summaries.{pieces}
use Rattle.psml_out.proofs.summaries.pieces_of_items.Given as goal

abbrev pub invariant-loop-item : goal.invariant-loop-item
invariant-loop-item l = l.all ++ pieces l.declared l.current (drop l.item-index l.items) ≡ pieces l.declared 0 l.items
