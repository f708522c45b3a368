use Rattle.std.proofs.Common.{◌≡◌, ◌-◌, ◌++◌, vec_len, reverse}
use Rattle.db_model.specs.Numbers.{to_bytes}
use Rattle.expr_eval.proofs.values.last_bytes.Given as goal

abbrev pub invariant-loop-place : goal.invariant-loop-place
invariant-loop-place l = record { same : to_bytes l.fn.size l.fn.n ≡ to_bytes (l.fn.size - l._place) l.left ++ reverse l.bytes.items; len : vec_len l.bytes ≡ l._place }
