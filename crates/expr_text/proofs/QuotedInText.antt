-- A text between quotes as a token of a text.
use Rattle.std.proofs.Common.{◌≡◌, ◌<◌, ◌+◌, ◌*◌, ◌/◌, ◌%◌, ◌==◌, ℕ, suc, Bool, true, false, List, [], ◌∷◌, ◌++◌, length, refl, sym, ap, ◌∙◌, append_assoc, append-nil, length-append, arith}
use Rattle.std.proofs.lemmas.Bool.{cond-true, cond-false, cond_both, or_parts, agree_below_at, eqb-true}
use Rattle.std.proofs.lemmas.Bool.Decides.{nat_tests}
use Rattle.std.specs.Char.{digit_value, is_ascii_hexdigit}
use Rattle.std.specs.Prelude.{if◌then◌else◌, ◌||◌, codes, slice_index}
use Rattle.hex.specs.Hex.{lower_digits, encode_with, encode_lower}
use Rattle.db_model.specs.Forms.{is_between}
use Rattle.expr_text.specs.declared.lexeme.Lexeme.TheVariants as lexeme
use Rattle.expr_text.specs.declared.lexeme.Scanned.{Scanned}
use Rattle.expr_text.specs.declared.token.Token.TheVariants as token
use Rattle.expr_text.specs.Lexing.{scanned, first, plain, escape, high, low}
use Rattle.expr_text.specs.Printing.{escaped, all_escaped, quoted}
use Rattle.expr_text.proofs.Pieces.{Anything, Lexes, behind, one_token}

abbrev pub AreBytes : List ℕ → Type 0
AreBytes [] = Unit {0}
AreBytes (b ∷ bs) = (b < 256) × AreBytes bs

-- ---- hex digits

abbrev glyph : ℕ → ℕ
glyph k = slice_index lower_digits k

abbrev always : ℕ → Bool
always k = true

glyph_is_digit : (k : ℕ) → k < 16 → is_ascii_hexdigit (glyph k) ≡ true
glyph_is_digit k h = agree_below_at (λ d. is_ascii_hexdigit (glyph d)) always 16 k refl h

glyph_value : (k : ℕ) → k < 16 → digit_value (glyph k) ≡ k
glyph_value k h = eqb-true (digit_value (glyph k)) k (agree_below_at (λ d. digit_value (glyph d) == d) always 16 k refl h)

-- ---- one byte

ReadsAs : ℕ → List ℕ → ℕ → List ℕ → List ℕ → Type 0
ReadsAs b w n rest x = plain w n (x ++ rest) ≡ plain (w ++ b ∷ []) (n + length x) rest

other_way : (b : ℕ) → (b == 0x27 || b == 0x5c) ≡ true → (b == 0x5c || b == 0x27) ≡ true
other_way b h = grind (arith, nat_tests)

sized : (w : List ℕ) (rest : List ℕ) (m n : ℕ) → m ≡ n → plain w m rest ≡ plain w n rest
sized w rest m n e = ap (λ k. plain w k rest) e

behind_bar : (b : ℕ) (w : List ℕ) (n : ℕ) (rest : List ℕ) → (b == 0x27 || b == 0x5c) ≡ true → ReadsAs b w n rest (0x5c ∷ b ∷ [])
unfolding ReadsAs plain escape high low
behind_bar b w n rest h =
    cond-true (b == 0x5c || b == 0x27) (plain (w ++ b ∷ []) (suc (suc n)) rest) _ (other_way b h)
    ∙ sized (w ++ b ∷ []) rest (suc (suc n)) (n + 2) (omega arith)

as_it_is : (b : ℕ) (w : List ℕ) (n : ℕ) (rest : List ℕ) → (b == 0x27 || b == 0x5c) ≡ false → is_between 0x20 0x7e b ≡ true → ReadsAs b w n rest (b ∷ [])
unfolding ReadsAs plain escape high low
as_it_is b w n rest h k =
    let p = or_parts (b == 0x27) (b == 0x5c) h in
    cond-false (b == 0x27) _ _ p.0
    ∙ cond-false (b == 0x5c) (escape w (suc n) rest) _ p.1
    ∙ cond-true (is_between 0x20 0x7e b) (plain (w ++ b ∷ []) (suc n) rest) _ k
    ∙ sized (w ++ b ∷ []) rest (suc n) (n + 1) (omega arith)

two_digits : (u v : ℕ) (w : List ℕ) (n : ℕ) (rest : List ℕ) → is_ascii_hexdigit u ≡ true → is_ascii_hexdigit v ≡ true → plain w n (0x5c ∷ 0x78 ∷ u ∷ v ∷ rest) ≡ plain (w ++ (16 * digit_value u + digit_value v) ∷ []) (n + 4) rest
unfolding plain escape high low
two_digits u v w n rest h k =
    cond-true (is_ascii_hexdigit u) (low w (digit_value u) (suc (suc (suc n))) (v ∷ rest)) _ h
    ∙ cond-true (is_ascii_hexdigit v) (plain (w ++ (16 * digit_value u + digit_value v) ∷ []) (suc (suc (suc (suc n)))) rest) _ k
    ∙ sized (w ++ (16 * digit_value u + digit_value v) ∷ []) rest (suc (suc (suc (suc n)))) (n + 4) (omega arith)

in_hex : (b : ℕ) (w : List ℕ) (n : ℕ) (rest : List ℕ) → b < 256 → ReadsAs b w n rest (codes "\\x" ++ encode_lower (b ∷ []))
unfolding ReadsAs encode_with
in_hex b w n rest h =
    let a : b / 16 < 16 = omega arith in
    let c : b % 16 < 16 = omega arith in
    let e : 16 * digit_value (glyph (b / 16)) + digit_value (glyph (b % 16)) ≡ b = omega (arith, glyph_value (b / 16) a, glyph_value (b % 16) c) in
    two_digits (glyph (b / 16)) (glyph (b % 16)) w n rest (glyph_is_digit (b / 16) a) (glyph_is_digit (b % 16) c)
    ∙ ap (λ x. plain (w ++ x ∷ []) (n + 4) rest) e

one_byte : (b : ℕ) (w : List ℕ) (n : ℕ) (rest : List ℕ) → b < 256 → ReadsAs b w n rest (escaped b)
unfolding escaped
one_byte b w n rest h =
    cond_both (b == 0x27 || b == 0x5c) (codes "\\" ++ b ∷ []) (if is_between 0x20 0x7e b then b ∷ [] else codes "\\x" ++ encode_lower (b ∷ [])) (ReadsAs b w n rest)
    (λ t. behind_bar b w n rest t)
    (λ f. cond_both (is_between 0x20 0x7e b) (b ∷ []) (codes "\\x" ++ encode_lower (b ∷ [])) (ReadsAs b w n rest) (λ t. as_it_is b w n rest f t) (λ _. in_hex b w n rest h))

-- ---- the whole text

abbrev text_of : List ℕ → ℕ → Scanned
text_of b n = scanned (lexeme.Token (token.Text b)) n

all_read : (b w : List ℕ) (n : ℕ) (rest : List ℕ) → AreBytes b → plain w n (all_escaped b ++ 0x27 ∷ rest) ≡ text_of (w ++ b) (suc (n + length (all_escaped b)))
unfolding plain escape high low ReadsAs
all_read [] w n rest h = ap (λ x. text_of x (suc n)) (sym (append-nil w)) ∙ ap (λ k. text_of (w ++ []) k) (omega arith)
all_read (x ∷ xs) w n rest h =
    ap (λ bs. plain w n bs) (append_assoc (escaped x) (all_escaped xs) (0x27 ∷ rest))
    ∙ one_byte x w n (all_escaped xs ++ 0x27 ∷ rest) h.0
    ∙ all_read xs (w ++ x ∷ []) (n + length (escaped x)) rest h.1
    ∙ ap (λ bs. text_of bs (suc (n + length (escaped x) + length (all_escaped xs)))) (append_assoc w (x ∷ []) xs)
    ∙ ap (λ k. text_of (w ++ x ∷ xs) k) (omega (arith, length-append (escaped x) (all_escaped xs)))

pub text_piece : (b : List ℕ) → AreBytes b → Lexes Anything (quoted b) (token.Text b ∷ [])
unfolding first quoted
text_piece b h rest us s are =
    let w : List ℕ = all_escaped b ++ codes "'" in
    one_token 0x27 w (token.Text b) rest us refl
    (ap (λ bs. plain [] 1 bs) (append_assoc (all_escaped b) (codes "'") rest)
    ∙ all_read b [] 1 rest h
    ∙ ap (λ k. text_of b k) (omega (arith, length-append (all_escaped b) (codes "'"))))
    (behind (token.Text b) rest us refl are)
