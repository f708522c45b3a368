-- A decimal number as a token of a text.
use Rattle.std.proofs.Common.{◌≡◌, ◌≤◌, ◌<◌, ◌+◌, ◌*◌, ◌^◌, ◌==◌, ℕ, suc, true, false, List, [], ◌∷◌, ◌++◌, length, refl, ap, ◌∙◌, arith}
use Rattle.std.proofs.lemmas.Bool.{cond-true, cond-false, and_parts, and_from, and_right, le-leb}
use Rattle.std.proofs.lemmas.Bool.Decides.{nat_tests}
use Rattle.std.proofs.lemmas.Fmt.{decimal_is_IsNumeral, length-decimal-le}
use Rattle.std.specs.Char.{digit_value, is_ascii_digit}
use Rattle.std.specs.Fmt.{decimal}
use Rattle.std.specs.List.{list_all}
use Rattle.std.specs.Prelude.{if◌then◌else◌, ◌&&◌, nat_le, nat_lt}
use Rattle.std.specs.Str.Parse.{AllDigits, digits_value_after}
use Rattle.db_model.specs.declared.limits.TheConstants.{GREATEST_NUMBER}
use Rattle.db_model.specs.Name.{continues_name}
use Rattle.expr_text.specs.declared.lexeme.Lexeme.TheVariants as lexeme
use Rattle.expr_text.specs.declared.lexeme.Scanned.{Scanned}
use Rattle.expr_text.specs.declared.token.Token.TheVariants as token
use Rattle.expr_text.specs.Lexing.{scanned, first, number, numeral, number_or_fault, hex_run, value_from, is_space, run}
use Rattle.expr_text.proofs.Pieces.{Boundary, Lexes, behind_number, one_token, run_is, stops_digits}

is_digit_from : (c : ℕ) → digit_value c < 10 → is_ascii_digit c ≡ true
is_digit_from c h = grind (arith, nat_tests)

all_digits : (ds : List ℕ) → AllDigits 10 ds → list_all is_ascii_digit ds ≡ true
all_digits [] h = refl
all_digits (c ∷ cs) h = and_from (is_ascii_digit c) (list_all is_ascii_digit cs) (is_digit_from c h.0) (all_digits cs h.1)

value_is : (radix n : ℕ) (ds : List ℕ) → value_from radix n ds ≡ digits_value_after radix n ds
value_is radix n [] = refl
value_is radix n (d ∷ ds) = value_is radix (n * radix + digit_value d) ds

not_space : (b : ℕ) → is_ascii_digit b ≡ true → is_space b ≡ false
not_space b h = grind (arith, nat_tests)

apart_x : (b : ℕ) → continues_name b ≡ false → (b == 0x78) ≡ false
apart_x b h = grind (arith, nat_tests)

digit_no_x : (b : ℕ) → is_ascii_digit b ≡ true → (b == 0x78) ≡ false
digit_no_x b h = grind (arith, nat_tests)

no_hex : (d : ℕ) (w rest : List ℕ) → list_all is_ascii_digit w ≡ true → Boundary rest → hex_run (d ∷ (w ++ rest)) ≡ []
unfolding hex_run
no_hex d [] [] h s = refl
no_hex d [] (b ∷ bs) h s = cond-false (d == 0x30 && b == 0x78) _ [] (and_right (d == 0x30) (b == 0x78) (apart_x b s.0))
no_hex d (b ∷ w) rest h s =
    let p = and_parts (is_ascii_digit b) (list_all is_ascii_digit w) h in
    cond-false (d == 0x30 && b == 0x78) _ [] (and_right (d == 0x30) (b == 0x78) (digit_no_x b p.0))

abbrev number_of : List ℕ → List ℕ → Scanned
number_of hex digits = if nat_lt 0 (length hex) then scanned (numeral 16 8 hex) (2 + length hex) else scanned (numeral 10 10 digits) (length digits)

first_digits : (d : ℕ) (w rest : List ℕ) → list_all is_ascii_digit (d ∷ w) ≡ true → Boundary rest → first d (w ++ rest) ≡ scanned (numeral 10 10 (d ∷ w)) (suc (length w))
unfolding first number
first_digits d w rest h s =
    let p = and_parts (is_ascii_digit d) (list_all is_ascii_digit w) h in
    cond-true (is_ascii_digit d) (number (d ∷ (w ++ rest))) _ p.0
    ∙ ap (λ hex. number_of hex (run is_ascii_digit (d ∷ (w ++ rest)))) (no_hex d w rest p.1 s)
    ∙ ap (λ digits. number_of [] digits) (run_is is_ascii_digit (d ∷ w) rest h (stops_digits rest s))

numeral_is : (n : ℕ) (ds : List ℕ) → length ds ≤ 10 → value_from 10 0 ds ≡ n → n ≤ GREATEST_NUMBER → numeral 10 10 ds ≡ lexeme.Token (token.Number n)
unfolding numeral
numeral_is n ds h e g =
    cond-true (nat_le (length ds) 10) (number_or_fault (value_from 10 0 ds)) lexeme.TooGreat (le-leb (length ds) 10 h)
    ∙ ap number_or_fault e
    ∙ cond-true (nat_le n GREATEST_NUMBER) (lexeme.Token (token.Number n)) lexeme.TooGreat (le-leb n GREATEST_NUMBER g)

digits_piece : (n : ℕ) (ds : List ℕ) → 0 < length ds → list_all is_ascii_digit ds ≡ true → numeral 10 10 ds ≡ lexeme.Token (token.Number n) → Lexes Boundary ds (token.Number n ∷ [])
digits_piece n [] more h e = absurd (omega arith)
digits_piece n (d ∷ w) more h e = λ rest us s are.
    let p = and_parts (is_ascii_digit d) (list_all is_ascii_digit w) h in
    one_token d w (token.Number n) rest us (not_space d p.0)
    (first_digits d w rest h s ∙ ap (λ l. scanned l (suc (length w))) e)
    (behind_number n rest us s are)

pub number_piece : (n : ℕ) → n ≤ GREATEST_NUMBER → Lexes Boundary (decimal n) (token.Number n ∷ [])
number_piece n g =
    let small : n < 2 ^ 64 = omega arith in
    let few : n < 10 ^ 10 = omega arith in
    let d = decimal_is_IsNumeral n small in
    digits_piece n (decimal n) d.0.0 (all_digits (decimal n) d.0.1)
    (numeral_is n (decimal n) (length-decimal-le 10 n (omega arith) few small) (value_is 10 0 (decimal n) ∙ d.1) g)
