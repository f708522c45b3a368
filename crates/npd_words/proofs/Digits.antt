-- What `parse` gives at decimal digits.
use Rattle.std.proofs.Common.{◌≡◌, ℕ, ◌<◌, ◌^◌, true, if◌then◌else◌, List, length, Some, None, Result, Ok, Err, inl, inr, arith, rules}
use Rattle.std.specs.Prelude.{nat_le}
use Rattle.std.specs.Char.{is_ascii_digit}
use Rattle.std.specs.List.{list_all}
use Rattle.std.specs.Result.{OkIff, result_ok}
use Rattle.std.specs.Str.Parse.{digits_value, ParsesUnsigned}
use Rattle.std.proofs.lemmas.Bool.Decides.{nat_tests, leb_tells}
use Rattle.std.proofs.lemmas.Str.Parse.{IsNumeralModel, numerals_by_value, parse_digits}
use Rattle.db_model.specs.declared.limits.TheConstants.{GREATEST_NUMBER}
use Rattle.npd_words.specs.Numbers.{are_digits, number_of}

all_digits : IsNumeralModel (λ ds. list_all is_ascii_digit ds ≡ true) (digits_value 10)
all_digits = numerals_by_value _ (search rules)

-- a parse gives the number unless it is too great
by_value : {E : Type 0} (t : List ℕ) (r : Result ℕ E) → 0 < length t → OkIff r ((0 < length t) × (digits_value 10 t < 2 ^ 32)) (digits_value 10 t)
    → result_ok r ≡ (if nat_le (digits_value 10 t) GREATEST_NUMBER then Some (digits_value 10 t) else None)
by_value t (Ok n) some h = grind (arith, nat_tests)
by_value t (Err e) some h =
    elim (leb_tells (digits_value 10 t) GREATEST_NUMBER) [
      | inl least ↦ absurd (h (some, omega arith))
      | inr greater ↦ rw greater.0
    ]

-- of 1 to 10 digits, a parse gives the number that they are
pub parsed_number : {E : Type 0} (t : List ℕ) (r : Result ℕ E) → ParsesUnsigned 32 10 t r → are_digits t ≡ true → result_ok r ≡ number_of t
unfolding number_of
parsed_number t r parsed are =
    let some : 0 < length t = grind (arith, nat_tests) in
    let all : list_all is_ascii_digit t ≡ true = grind (arith, nat_tests) in
    rw are (by_value t r some (parse_digits all_digits 32 t r parsed all))
