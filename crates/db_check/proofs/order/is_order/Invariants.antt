use Rattle.std.proofs.Common.{◌≡◌, drop}
use Rattle.db_check.specs.Order.{is_order}
use Rattle.db_check.proofs.order.is_order.Given as goal

abbrev pub invariant-loop-number : goal.invariant-loop-number
invariant-loop-number l = is_order l.turns l.number (drop l.number l.graph) ≡ is_order l.turns 0 l.graph
