use Rattle.std.proofs.Common.{ℕ, zero, suc, ◌<◌, ◌^◌, arith}
use Rattle.show.proofs.value.big_endian.Goals as goal

-- three bytes at most leave room for one more
below_three_bytes : (i n : ℕ) → i < 4 → n < 256 ^ i → n < 2 ^ 24
below_three_bytes zero n h l = omega arith
below_three_bytes (suc zero) n h l = omega arith
below_three_bytes (suc (suc zero)) n h l = omega arith
below_three_bytes (suc (suc (suc zero))) n h l = omega arith
below_three_bytes (suc (suc (suc (suc i)))) n h l = absurd (omega arith)

pub overflow_mul-number : goal.overflow_mul-number
overflow_mul-number c = omega (arith, below_three_bytes c.loop-byte.byte-index c.loop-byte.number (omega arith) c.loop-byte.invariant.1)
