-- Bits and bytes of a number.
use Rattle.std.proofs.Common.{◌≡◌, ℕ, zero, suc, ◌+◌, ◌-◌, ◌*◌, ◌/◌, ◌%◌, ◌^◌, ◌<◌, ◌≤◌, ◌==◌, if◌then◌else◌, List, [], ◌∷◌, ◌++◌, take, drop, eqb, refl, sym, ap, ◌∙◌, arith, w32}
use Rattle.std.proofs.Math.Nat.{div-div-eq-div-mul, pow-succ'}
use Rattle.std.proofs.lemmas.Bool.{cond-false, ne_eqb}
use Rattle.std.specs.Int.{to_be_bytes, bytes_high_first, byte_at}
use lib.Count.{count_trailing_zeros, under}
use Rattle.db_model.specs.Numbers.{number_from, to_bytes, lowest_one}

-- ---- the lowest 1

rest_under : (r t : ℕ) → (if r == 0 then suc t else zero) ≡ under r t
rest_under zero t = refl
rest_under (suc r) t = cond-false (eqb (suc r) 0) (suc t) zero (ne_eqb (suc r) 0 (λ e. omega arith))

-- the place of the lowest 1 is the number of zeros below it
pub lowest_one-zeros : (k mask : ℕ) → count_trailing_zeros k mask ≡ lowest_one k mask
unfolding count_trailing_zeros
lowest_one-zeros zero mask = refl
lowest_one-zeros (suc k) mask = ap (under (mask % 2)) (lowest_one-zeros k (mask / 2)) ∙ sym (rest_under (mask % 2) (lowest_one k (mask / 2)))

-- ---- bytes

-- one byte more is read
pub number_from-push : (high : ℕ) (bs : List ℕ) (b : ℕ) → number_from high (bs ++ b ∷ []) ≡ 256 * number_from high bs + b
number_from-push high [] b = refl
number_from-push high (x ∷ bs) b = number_from-push (256 * high + x) bs b

byte_at-more : (k n : ℕ) → byte_at (suc k) n ≡ byte_at k (n / 256)
byte_at-more zero n = refl
byte_at-more (suc k) n = ap (λ m. m % 256) (ap (λ p. n / p) (pow-succ' 256 (suc k)) ∙ sym (div-div-eq-div-mul n 256 (256 ^ suc k)))

high_first-push : (k n : ℕ) → bytes_high_first (suc k) n ≡ bytes_high_first k (n / 256) ++ (n % 256) ∷ []
high_first-push zero n = refl
high_first-push (suc k) n = ap (λ b. b ∷ bytes_high_first (suc k) n) (byte_at-more k n) ∙ ap (λ bs. byte_at k (n / 256) ∷ bs) (high_first-push k n)

high_first-bytes : (k n : ℕ) → bytes_high_first k n ≡ to_bytes k n
high_first-bytes zero n = refl
high_first-bytes (suc k) n = high_first-push k n ∙ ap (λ bs. bs ++ (n % 256) ∷ []) (high_first-bytes k (n / 256))

lowest : (k n : ℕ) → k ≤ 4 → take (4 - (4 - k)) (drop (4 - k) (to_be_bytes w32 n)) ≡ bytes_high_first k n
lowest zero n h = refl
lowest (suc zero) n h = refl
lowest (suc (suc zero)) n h = refl
lowest (suc (suc (suc zero))) n h = refl
lowest (suc (suc (suc (suc zero)))) n h = refl
lowest (suc (suc (suc (suc (suc k))))) n h = absurd (omega arith)

-- the last bytes of a number of 4 bytes
pub last_bytes : (k n : ℕ) → k ≤ 4 → take (4 - (4 - k)) (drop (4 - k) (to_be_bytes w32 n)) ≡ to_bytes k n
last_bytes k n h = lowest k n h ∙ high_first-bytes k n

-- three bytes at most leave room for one more
pub below_three_bytes : (i n : ℕ) → i < 4 → n < 256 ^ i → n < 2 ^ 24
below_three_bytes zero n h l = omega arith
below_three_bytes (suc zero) n h l = omega arith
below_three_bytes (suc (suc zero)) n h l = omega arith
below_three_bytes (suc (suc (suc zero))) n h l = omega arith
below_three_bytes (suc (suc (suc (suc i)))) n h l = absurd (omega arith)
