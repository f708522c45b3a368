-- The place that a search answers is where `through` ends.
use Rattle.std.proofs.Common.{◌≡◌, ℕ, zero, suc, ◌+◌, ◌<◌, true, List, [], ◌∷◌, Option, Some, None, length, take, nat_eq, refl, sym, ap, ◌∙◌, arith, length-take, suc-add, zero-add}
use Rattle.std.specs.List.{starts_with}
use Rattle.std.proofs.lemmas.Bool.{cond-true, cond-false, false_from_ne_true}
use Rattle.std.proofs.lemmas.Slice.Eq.{bytes_eq-Decides}
use Rattle.db_model.specs.Extent.{through}
use Rattle.memchr.specs.Find.{IsFirstByte, FindsNeedle, Passes, OccursAt, is_byte}
use Rattle.memchr.proofs.lemmas.FindLemmas.{IsFirst-agree, IsFirst-wider, OccursAt-byte, byte-OccursAt}
use Rattle.memchr.proofs.lemmas.MatchLemmas.{OccursAt-part, OccursAt-from_part}

module _ (token : List ℕ) where
  -- bytes that start with the token have it at their first place, and the other way round
  starts : (hay : List ℕ) → OccursAt hay token 0 → starts_with nat_eq hay token ≡ true
  starts hay h = (bytes_eq-Decides token (take (length token) hay)).1 (sym (OccursAt-part hay token 0 h))

  occurs : (hay : List ℕ) → starts_with nat_eq hay token ≡ true → OccursAt hay token 0
  occurs hay e =
      let same : token ≡ take (length token) hay = (bytes_eq-Decides token (take (length token) hay)).0 e in
      let long : length token ≡ length (take (length token) hay) = ap length same in
      OccursAt-from_part hay token 0 (omega (arith, length-take (length token) hay)) (sym same)

  behind : (b : ℕ) (bs : List ℕ) (k : ℕ) → OccursAt (b ∷ bs) token (suc k) → OccursAt bs token k
  behind b bs k h = OccursAt-from_part bs token k (omega (arith, h.fits)) (OccursAt-part (b ∷ bs) token (suc k) h)

  before : (b : ℕ) (bs : List ℕ) (k : ℕ) → OccursAt bs token k → OccursAt (b ∷ bs) token (suc k)
  before b bs k h = OccursAt-from_part (b ∷ bs) token (suc k) (omega (arith, h.fits)) (OccursAt-part bs token k h)

  not_here : (b : ℕ) (bs : List ℕ) → (OccursAt (b ∷ bs) token 0 → ⊥) → through token (b ∷ bs) ≡ suc (through token bs)
  not_here b bs h = cond-false (starts_with nat_eq (b ∷ bs) token) _ _ (false_from_ne_true _ (λ e. h (occurs (b ∷ bs) e)))

  -- a token that stands nowhere
  through_none : (hay : List ℕ) → ((k : ℕ) → k < length hay + 1 → OccursAt hay token k → ⊥) → through token hay ≡ length hay
  through_none [] h = refl
  through_none (b ∷ bs) h =
      not_here b bs (h 0 (omega arith)) ∙ ap (λ n. suc n) (through_none bs (λ k l o. h (suc k) (omega arith) (before b bs k o)))

  -- a token that stands at a place, and at no place before
  through_first : (hay : List ℕ) (k : ℕ) → OccursAt hay token k → ((j : ℕ) → j < k → OccursAt hay token j → ⊥) → through token hay ≡ k + length token
  through_first [] k o h = let fits = o.fits in omega arith
  through_first (b ∷ bs) zero o h = cond-true (starts_with nat_eq (b ∷ bs) token) _ _ (starts (b ∷ bs) o) ∙ sym (zero-add (length token))
  through_first (b ∷ bs) (suc k) o h =
      not_here b bs (h 0 (omega arith)) ∙ (ap (λ n. suc n) (through_first bs k (behind b bs k o) (λ j l p. h (suc j) (omega arith) (before b bs j p))) ∙ sym (suc-add k (length token)))

-- what a search for the token answers
pub through-found : (token hay : List ℕ) (k : ℕ) → FindsNeedle hay token 0 (Some k) → through token hay ≡ k + length token
through-found token hay k h = through_first token hay k h.1 (λ j l o. h.0.before j (omega arith) l o)

pub through-missed : (token hay : List ℕ) → FindsNeedle hay token 0 None → through token hay ≡ length hay
through-missed token hay h = through_none token hay (λ k l o. h k (omega arith) l o)

-- a search for one byte is a search for the token of that byte
as_needle : (b : ℕ) (hay : List ℕ) (r : Option ℕ) → IsFirstByte (is_byte b) hay r → FindsNeedle hay (b ∷ []) 0 r
as_needle b hay r h =
    IsFirst-wider (OccursAt hay (b ∷ [])) 0 (length hay) (length hay + 1) (omega arith) (λ k o. let fits = o.fits in omega arith) r
    (IsFirst-agree (Passes (is_byte b) hay) (OccursAt hay (b ∷ [])) 0 (length hay) (λ k l p. OccursAt-byte hay (b ∷ []) refl k l p) (λ k l o. byte-OccursAt hay (b ∷ []) refl k o) r h)

pub through_byte-found : (b : ℕ) (hay : List ℕ) (k : ℕ) → IsFirstByte (is_byte b) hay (Some k) → through (b ∷ []) hay ≡ k + 1
through_byte-found b hay k h = through-found (b ∷ []) hay k (as_needle b hay (Some k) h)

pub through_byte-missed : (b : ℕ) (hay : List ℕ) → IsFirstByte (is_byte b) hay None → through (b ∷ []) hay ≡ length hay
through_byte-missed b hay h = through-missed (b ∷ []) hay (as_needle b hay None h)
