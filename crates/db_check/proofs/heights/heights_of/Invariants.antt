use Rattle.std.proofs.Common.{◌≡◌}
use Rattle.db_check.specs.Heights.{heights_after}
use Rattle.db_check.proofs.heights.heights_of.Given as goal

abbrev pub invariant-loop-round : goal.invariant-loop-round
invariant-loop-round l = l.heights ≡ heights_after l.home.protocol.now l._round
