use Rattle.std.proofs.Common.{◌≡◌, ◌≤◌, ◌+◌, ◌*◌, ◌^◌, drop}
use Rattle.expr_text.specs.Lexing.{value_from}
use Rattle.expr_text.proofs.number.hex_value.Given as goal

abbrev pub invariant-loop-d : goal.invariant-loop-d
invariant-loop-d l =
    (value_from 16 l.n (drop l.d-index l.digits) ≡ value_from 16 0 l.digits) × (l.n + 3 ≤ 3 * 16 ^ l.d-index)
