-- Digits are no signs of the markup, and neither is the point between them.
use Rattle.std.specs.Prelude.{◌≡◌, ℕ, zero, suc, ◌+◌, ◌/◌, ◌%◌, ◌^◌, ◌<◌, ◌≤◌, List, [], ◌∷◌, ◌++◌, drop, codes, decimal}
use Rattle.std.proofs.Common.{refl, ap, ◌∙◌, arith}
use Rattle.std.proofs.lemmas.Fmt.{decimal_by_steps}
use Rattle.show.specs.Markup.{entity, escaped}
use Rattle.show.specs.Stamps.{timestamp}

-- texts without signs of the markup
abbrev pub IsPlain : List ℕ → Type 0
IsPlain [] = Unit {0}
IsPlain (b ∷ bs) = (entity b ≡ b ∷ []) × IsPlain bs

plain_both : (a b : List ℕ) → IsPlain a → IsPlain b → IsPlain (a ++ b)
plain_both [] b h g = g
plain_both (x ∷ a) b h g = (h.0, plain_both a b h.1 g)

plain_rest : (a : List ℕ) → IsPlain a → IsPlain (drop 1 a)
plain_rest [] h = tt
plain_rest (x ∷ a) h = h.1

escaped_plain : (a : List ℕ) → IsPlain a → escaped a ≡ a
escaped_plain [] h = refl
escaped_plain (x ∷ a) h = ap (λ (l : List ℕ). l ++ escaped a) h.0 ∙ ap (λ (l : List ℕ). x ∷ l) (escaped_plain a h.1)

digit : (n : ℕ) → n < 10 → entity (48 + n) ≡ (48 + n) ∷ []
unfolding entity
digit zero h = refl
digit (suc zero) h = refl
digit (suc (suc zero)) h = refl
digit (suc (suc (suc zero))) h = refl
digit (suc (suc (suc (suc zero)))) h = refl
digit (suc (suc (suc (suc (suc zero))))) h = refl
digit (suc (suc (suc (suc (suc (suc zero)))))) h = refl
digit (suc (suc (suc (suc (suc (suc (suc zero))))))) h = refl
digit (suc (suc (suc (suc (suc (suc (suc (suc zero)))))))) h = refl
digit (suc (suc (suc (suc (suc (suc (suc (suc (suc zero))))))))) h = refl
digit (suc (suc (suc (suc (suc (suc (suc (suc (suc (suc n)))))))))) h = absurd (omega arith)

point : entity 46 ≡ 46 ∷ []
unfolding entity
point = refl

one_more : (n : ℕ) (ds : List ℕ) → 10 ≤ n → IsPlain ds → IsPlain (ds ++ (48 + n % 10) ∷ [])
one_more n ds h p = plain_both ds ((48 + n % 10) ∷ []) p (digit (n % 10) (omega arith), tt)

plain_decimal : (n : ℕ) → n < 2 ^ 64 → IsPlain (decimal n)
plain_decimal n h = decimal_by_steps (λ n ds. IsPlain ds) (λ n h. (digit n h, tt)) one_more n h

pub escaped_decimal : (n : ℕ) → n < 2 ^ 64 → escaped (decimal n) ≡ decimal n
escaped_decimal n h = escaped_plain (decimal n) (plain_decimal n h)

pub escaped_timestamp : (stamp : ℕ) → stamp < 2 ^ 64 → escaped (timestamp stamp) ≡ timestamp stamp
unfolding timestamp
escaped_timestamp stamp h =
    let rest : List ℕ = decimal (1000000000 + stamp % 1000000000) in
    escaped_plain (timestamp stamp)
    (plain_both (decimal (stamp / 1000000000)) (codes "." ++ drop 1 rest) (plain_decimal (stamp / 1000000000) (omega arith))
    (point, plain_rest rest (plain_decimal (1000000000 + stamp % 1000000000) (omega arith))))
