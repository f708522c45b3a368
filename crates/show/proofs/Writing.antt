-- How digits, and texts in parts, are written.
use Rattle.std.specs.Prelude.{◌≡◌, ℕ, zero, suc, ◌+◌, ◌/◌, ◌%◌, ◌^◌, ◌<◌, ◌≤◌, List, [], ◌∷◌, ◌++◌, map, decimal, slice_index}
use Rattle.std.specs.List.{flat_map}
use Rattle.std.proofs.Common.{refl, sym, ap, ◌∙◌, arith, append_assoc}
use Rattle.std.proofs.lemmas.Fmt.{decimal_by_steps}
use Rattle.std.proofs.lemmas.Grind.{flat_map-append}
use Rattle.hex.specs.Hex.{lower_digits, encode_with, encode_lower}
use Rattle.show.specs.declared.markup.TextForm.{TextForm}
use Rattle.show.specs.declared.markup.TextForm.TheVariants.{Plain, Markup}
use Rattle.show.specs.Markup.{entity, escaped, written}

pub written-append : (form : TextForm) (a b : List ℕ) → written form (a ++ b) ≡ written form a ++ written form b
written-append Plain a b = refl
written-append Markup a b = flat_map-append entity a b

pub written-empty : (form : TextForm) → written form [] ≡ []
written-empty Plain = refl
written-empty Markup = refl

-- ---- digits are no signs of the markup

hex_digit : (k : ℕ) → entity (slice_index lower_digits k) ≡ slice_index lower_digits k ∷ []
unfolding entity
hex_digit zero = refl
hex_digit (suc zero) = refl
hex_digit (suc (suc zero)) = refl
hex_digit (suc (suc (suc zero))) = refl
hex_digit (suc (suc (suc (suc zero)))) = refl
hex_digit (suc (suc (suc (suc (suc zero))))) = refl
hex_digit (suc (suc (suc (suc (suc (suc zero)))))) = refl
hex_digit (suc (suc (suc (suc (suc (suc (suc zero))))))) = refl
hex_digit (suc (suc (suc (suc (suc (suc (suc (suc zero)))))))) = refl
hex_digit (suc (suc (suc (suc (suc (suc (suc (suc (suc zero))))))))) = refl
hex_digit (suc (suc (suc (suc (suc (suc (suc (suc (suc (suc zero)))))))))) = refl
hex_digit (suc (suc (suc (suc (suc (suc (suc (suc (suc (suc (suc zero))))))))))) = refl
hex_digit (suc (suc (suc (suc (suc (suc (suc (suc (suc (suc (suc (suc zero)))))))))))) = refl
hex_digit (suc (suc (suc (suc (suc (suc (suc (suc (suc (suc (suc (suc (suc zero))))))))))))) = refl
hex_digit (suc (suc (suc (suc (suc (suc (suc (suc (suc (suc (suc (suc (suc (suc zero)))))))))))))) = refl
hex_digit (suc (suc (suc (suc (suc (suc (suc (suc (suc (suc (suc (suc (suc (suc (suc zero))))))))))))))) = refl
hex_digit (suc (suc (suc (suc (suc (suc (suc (suc (suc (suc (suc (suc (suc (suc (suc (suc k)))))))))))))))) = refl

escaped-hex : (bs : List ℕ) → escaped (encode_lower bs) ≡ encode_lower bs
unfolding encode_with
escaped-hex [] = refl
escaped-hex (b ∷ bs) =
    ap (λ (l : List ℕ). l ++ (entity (slice_index lower_digits (b % 16)) ++ escaped (encode_lower bs))) (hex_digit (b / 16))
    ∙ ap (λ (l : List ℕ). slice_index lower_digits (b / 16) ∷ (l ++ escaped (encode_lower bs))) (hex_digit (b % 16))
    ∙ ap (λ (l : List ℕ). slice_index lower_digits (b / 16) ∷ slice_index lower_digits (b % 16) ∷ l) (escaped-hex bs)

pub written-hex : (form : TextForm) (bs : List ℕ) → written form (encode_lower bs) ≡ encode_lower bs
written-hex Plain bs = refl
written-hex Markup bs = escaped-hex bs

decimal_digit : (n : ℕ) → n < 10 → escaped ((48 + n) ∷ []) ≡ (48 + n) ∷ []
unfolding entity
decimal_digit zero h = refl
decimal_digit (suc zero) h = refl
decimal_digit (suc (suc zero)) h = refl
decimal_digit (suc (suc (suc zero))) h = refl
decimal_digit (suc (suc (suc (suc zero)))) h = refl
decimal_digit (suc (suc (suc (suc (suc zero))))) h = refl
decimal_digit (suc (suc (suc (suc (suc (suc zero)))))) h = refl
decimal_digit (suc (suc (suc (suc (suc (suc (suc zero))))))) h = refl
decimal_digit (suc (suc (suc (suc (suc (suc (suc (suc zero)))))))) h = refl
decimal_digit (suc (suc (suc (suc (suc (suc (suc (suc (suc zero))))))))) h = refl
decimal_digit (suc (suc (suc (suc (suc (suc (suc (suc (suc (suc n)))))))))) h = absurd (omega arith)

one_more : (n : ℕ) (ds : List ℕ) → 10 ≤ n → escaped ds ≡ ds → escaped (ds ++ (48 + n % 10) ∷ []) ≡ ds ++ (48 + n % 10) ∷ []
one_more n ds h e =
    let r : n % 10 < 10 = omega arith in
    flat_map-append entity ds ((48 + n % 10) ∷ []) ∙ ap (λ (l : List ℕ). l ++ escaped ((48 + n % 10) ∷ [])) e ∙ ap (λ (l : List ℕ). ds ++ l) (decimal_digit (n % 10) r)

escaped-decimal : (n : ℕ) → n < 2 ^ 64 → escaped (decimal n) ≡ decimal n
escaped-decimal n h = decimal_by_steps (λ n ds. escaped ds ≡ ds) decimal_digit one_more n h

pub written-decimal : (form : TextForm) (n : ℕ) → n < 2 ^ 64 → written form (decimal n) ≡ decimal n
written-decimal Plain n h = refl
written-decimal Markup n h = escaped-decimal n h

-- ---- characters, one after another

abbrev pub each_written : TextForm → (ℕ → ℕ) → ℕ → List ℕ
each_written form f b = written form (f b ∷ [])

pub written-map : (form : TextForm) (f : ℕ → ℕ) (bs : List ℕ) → flat_map (each_written form f) bs ≡ written form (map f bs)
written-map form f [] = sym (written-empty form)
written-map form f (b ∷ bs) = ap (λ (l : List ℕ). written form (f b ∷ []) ++ l) (written-map form f bs) ∙ sym (written-append form (f b ∷ []) (map f bs))

-- what stands behind a text that was added
pub onto : (before added now rest : List ℕ) → now ≡ before ++ added → now ++ rest ≡ before ++ (added ++ rest)
onto before added now rest e = ap (λ (l : List ℕ). l ++ rest) e ∙ append_assoc before added rest
