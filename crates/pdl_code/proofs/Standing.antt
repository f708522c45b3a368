-- Operations that stand in the code at a place.
use Rattle.std.specs.Prelude.{◌≡◌, ℕ, ◌+◌, ◌<◌, List, [], ◌∷◌, ◌++◌, length, slice_get, Some}
use Rattle.std.proofs.Common.{ap, subst, ◌∙◌, arith, append_assoc, append-nil, length-append}
use Rattle.std.proofs.Math.Seq.{get_or-append_seam}
use Rattle.std.proofs.lemmas.Option.{slice_get-get_or}
use Rattle.pdl_code.specs.declared.code.Op.{Op}

abbrev pub HasAt : List Op → ℕ → List Op → Type 0
HasAt code pc [] = Unit {0}
HasAt code pc (o ∷ os) = (slice_get code pc ≡ Some o) × HasAt code (pc + 1) os

pub has_front : (code : List Op) (pc : ℕ) (a b : List Op) → HasAt code pc (a ++ b) → HasAt code pc a
has_front code pc [] b h = tt
has_front code pc (o ∷ a) b h = (h.0, has_front code (pc + 1) a b h.1)

pub has_back : (code : List Op) (pc : ℕ) (a b : List Op) → HasAt code pc (a ++ b) → HasAt code (pc + length a) b
has_back code pc [] b h = let e : pc ≡ pc + 0 = omega arith in subst (λ n. HasAt code n b) e h
has_back code pc (o ∷ a) b h =
    let e : pc + 1 + length a ≡ pc + length (o ∷ a) = omega arith in
    subst (λ n. HasAt code n b) e (has_back code (pc + 1) a b h.1)

-- a place under another name
pub has_same : (code : List Op) (m n : ℕ) (a : List Op) → m ≡ n → HasAt code m a → HasAt code n a
has_same code m n a e h = subst (λ k. HasAt code k a) e h

-- what stands behind other operations, and before more
pub has_all : (os before after : List Op) → HasAt (before ++ (os ++ after)) (length before) os
has_all [] before after = tt
has_all (o ∷ os) before after =
    let within : length before < length (before ++ o ∷ (os ++ after)) = omega (arith, length-append before (o ∷ (os ++ after))) in
    let here = slice_get-get_or (before ++ o ∷ (os ++ after)) (length before) o within ∙ ap Some (get_or-append_seam before o (os ++ after) o) in
    let n : length (before ++ o ∷ []) ≡ length before + 1 = omega (arith, length-append before (o ∷ [])) in
    let rest = has_all os (before ++ o ∷ []) after in
    let rest' = subst (λ l. HasAt l (length (before ++ o ∷ [])) os) (append_assoc before (o ∷ []) (os ++ after)) rest in
    (here, subst (λ m. HasAt (before ++ o ∷ (os ++ after)) m os) n rest')

-- what stands first, and what stands last
pub has_first : (os after : List Op) → HasAt (os ++ after) 0 os
has_first os after = has_all os [] after

pub has_last : (os before : List Op) → HasAt (before ++ os) (length before) os
has_last os before = subst (λ l. HasAt (before ++ l) (length before) os) (append-nil os) (has_all os before [])
