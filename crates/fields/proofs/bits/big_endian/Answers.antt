use Rattle.std.proofs.Common.{arith}
use Rattle.fields.proofs.NumberLemmas.{below_three_bytes}
use Rattle.fields.proofs.bits.big_endian.Goals as goal

pub overflow_mul-number : goal.overflow_mul-number
overflow_mul-number c = omega (arith, below_three_bytes c.loop-byte.byte-index c.loop-byte.number (omega arith) c.loop-byte.invariant.1)
