use Rattle.std.proofs.Common.{◌≡◌, drop}
use Rattle.db_check.specs.Order.{are_later}
use Rattle.db_check.proofs.order.are_later.Given as goal

abbrev pub invariant-loop-target : goal.invariant-loop-target
invariant-loop-target l = are_later l.turns l.turn (drop l.target-index l.targets) ≡ are_later l.turns l.turn l.targets
