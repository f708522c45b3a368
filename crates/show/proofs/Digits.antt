-- Numbers of one, two and three digits, and the digits of bytes one behind another.
use Rattle.std.specs.Prelude.{◌≡◌, ℕ, ◌+◌, ◌/◌, ◌%◌, ◌<◌, ◌≤◌, ◌^◌, List, [], ◌∷◌, ◌++◌, decimal, drop, length, slice_index}
use Rattle.std.proofs.Common.{refl, sym, ap, ◌∙◌, arith, append_assoc, append-nil}
use Rattle.std.proofs.Math.ListN.{get_or}
use Rattle.std.proofs.lemmas.Fmt.{decimal_digit, decimal_step}
use Rattle.std.proofs.lemmas.List.{drop_all, drop_more}
use Rattle.hex.specs.Hex.{encode_with, encode_lower, lower_digits}

pub one_digit : (n a : ℕ) → n < 10 → a ≡ 48 + n → decimal n ≡ a ∷ []
one_digit n a h e = decimal_digit n h ∙ ap (λ (d : ℕ). d ∷ []) (sym e)

pub two_digits : (n a b : ℕ) → 10 ≤ n → n < 100 → a ≡ 48 + n / 10 → b ≡ 48 + n % 10 → decimal n ≡ a ∷ b ∷ []
two_digits n a b h l e f =
    decimal_step n h (omega arith) ∙ ap (λ (ds : List ℕ). ds ++ ((48 + n % 10) ∷ [])) (one_digit (n / 10) a (omega arith) e) ∙ ap (λ (d : ℕ). a ∷ d ∷ []) (sym f)

pub three_digits : (n a b c : ℕ) → 100 ≤ n → n < 1000 → a ≡ 48 + n / 10 / 10 → b ≡ 48 + n / 10 % 10 → c ≡ 48 + n % 10 → decimal n ≡ a ∷ b ∷ c ∷ []
three_digits n a b c h l e f g =
    decimal_step n (omega arith) (omega arith) ∙ ap (λ (ds : List ℕ). ds ++ ((48 + n % 10) ∷ [])) (two_digits (n / 10) a b (omega arith) (omega arith) e f) ∙ ap (λ (d : ℕ). a ∷ b ∷ d ∷ []) (sym g)

-- the same, added digit by digit
pub one_added : (n a : ℕ) (t0 t1 : List ℕ) → n < 10 → a ≡ 48 + n → t1 ≡ t0 ++ a ∷ [] → t1 ≡ t0 ++ decimal n
one_added n a t0 t1 h e f = f ∙ ap (λ (l : List ℕ). t0 ++ l) (sym (one_digit n a h e))

both : (t0 t1 t2 xs ys : List ℕ) → t1 ≡ t0 ++ xs → t2 ≡ t1 ++ ys → t2 ≡ t0 ++ (xs ++ ys)
both t0 t1 t2 xs ys e f = f ∙ ap (λ (l : List ℕ). l ++ ys) e ∙ append_assoc t0 xs ys

pub two_added : (n a b : ℕ) (t0 t1 t2 : List ℕ) → 10 ≤ n → n < 100 → a ≡ 48 + n / 10 → b ≡ 48 + n % 10 → t1 ≡ t0 ++ a ∷ [] → t2 ≡ t1 ++ b ∷ [] → t2 ≡ t0 ++ decimal n
two_added n a b t0 t1 t2 h l e f p q = both t0 t1 t2 (a ∷ []) (b ∷ []) p q ∙ ap (λ (ds : List ℕ). t0 ++ ds) (sym (two_digits n a b h l e f))

pub three_added : (n a b c : ℕ) (t0 t1 t2 t3 : List ℕ) → 100 ≤ n → n < 1000 → a ≡ 48 + n / 10 / 10 → b ≡ 48 + n / 10 % 10 → c ≡ 48 + n % 10 → t1 ≡ t0 ++ a ∷ [] → t2 ≡ t1 ++ b ∷ [] → t3 ≡ t2 ++ c ∷ [] → t3 ≡ t0 ++ decimal n
three_added n a b c t0 t1 t2 t3 h l e f g p q r =
    both t0 t2 t3 (a ∷ b ∷ []) (c ∷ []) (both t0 t1 t2 (a ∷ []) (b ∷ []) p q) r ∙ ap (λ (ds : List ℕ). t0 ++ ds) (sym (three_digits n a b c h l e f g))

-- ---- the digits of bytes

hex_first : (b : ℕ) (bs : List ℕ) → encode_lower (b ∷ bs) ≡ slice_index lower_digits (b / 16) ∷ slice_index lower_digits (b % 16) ∷ encode_lower bs
unfolding encode_with
hex_first b bs = refl

-- one byte more
pub hex_more : (bs : List ℕ) (i b : ℕ) (t0 t1 t2 all : List ℕ) → i < length bs → b ≡ get_or bs i 0 → t0 ++ encode_lower (drop i bs) ≡ all → t1 ≡ t0 ++ slice_index lower_digits (b / 16) ∷ [] → t2 ≡ t1 ++ slice_index lower_digits (b % 16) ∷ [] → t2 ++ encode_lower (drop (i + 1) bs) ≡ all
hex_more bs i b t0 t1 t2 all within is e f g =
    let high : ℕ = slice_index lower_digits (b / 16) in
    let low : ℕ = slice_index lower_digits (b % 16) in
    let rest : List ℕ = encode_lower (drop (i + 1) bs) in
    ap (λ (l : List ℕ). l ++ rest) (g ∙ ap (λ (l : List ℕ). l ++ low ∷ []) f)
    ∙ append_assoc (t0 ++ high ∷ []) (low ∷ []) rest ∙ append_assoc t0 (high ∷ []) (low ∷ rest)
    ∙ ap (λ (l : List ℕ). t0 ++ l) (sym (ap encode_lower (drop_more bs i 0 within ∙ ap (λ (x : ℕ). x ∷ drop (i + 1) bs) (sym is)) ∙ hex_first b (drop (i + 1) bs))) ∙ e

hex_none : encode_lower [] ≡ []
unfolding encode_with
hex_none = refl

-- no byte is left
pub hex_done : (bs : List ℕ) (i : ℕ) (t all : List ℕ) → length bs ≤ i → t ++ encode_lower (drop i bs) ≡ all → t ≡ all
hex_done bs i t all e h =
    sym (append-nil t) ∙ ap (λ (l : List ℕ). t ++ l) (sym (ap encode_lower (drop_all i bs e) ∙ hex_none)) ∙ h
