use Rattle.std.proofs.Common.{drop}
use Rattle.db_model.proofs.LastValue.{KeepsLeft}
use Rattle.db_model.proofs.field_values.forget.Given as goal

abbrev pub invariant-loop-number : goal.invariant-loop-number
invariant-loop-number l = KeepsLeft (drop l.number-index l.values) l.last
