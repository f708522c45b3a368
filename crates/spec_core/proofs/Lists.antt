-- Slots after a write.
use Rattle.std.specs.Prelude.{◌≡◌, ℕ, zero, suc, ◌<◌, ◌⊎◌, List, [], ◌∷◌, length, slice_get, slice_set, replicate, Some}
use Rattle.std.proofs.Common.{refl, sym, ap, subst, ◌≢◌, arith, inl, inr}
use Rattle.engine.specs.declared.receipt.Taken.{Taken}
use Rattle.spec_core.specs.declared.slot.Slot.{Slot}
use Rattle.spec_core.specs.declared.slot.Slot.TheVariants.{Free}
use Rattle.spec_core.specs.Machine.{taken_in, HasSlots}

-- what stands at a place after a write
pub get_set : {X : Type 0} (xs : List X) (i j : ℕ) (y s : X) → slice_get (slice_set xs i y) j ≡ Some s → ((j ≡ i) × (s ≡ y)) ⊎ ((j ≢ i) × (slice_get xs j ≡ Some s))
get_set [] i j y s h = absurd (cc)
get_set (x ∷ xs) zero zero y s h = inl (refl, cc)
get_set (x ∷ xs) zero (suc j) y s h = inr (omega arith, h)
get_set (x ∷ xs) (suc i) zero y s h = inr (omega arith, h)
get_set (x ∷ xs) (suc i) (suc j) y s h = elim (get_set xs i j y s h) [ inl e ↦ inl (omega arith, e.1) | inr e ↦ inr ((λ k. e.0 (omega arith)), e.1) ]

pub set_length : {X : Type 0} (xs : List X) (i : ℕ) (y : X) → length (slice_set xs i y) ≡ length xs
set_length [] i y = refl
set_length (x ∷ xs) zero y = refl
set_length (x ∷ xs) (suc i) y = ap suc (set_length xs i y)

pub set_get_same : {X : Type 0} (xs : List X) (i : ℕ) (y : X) → i < length xs → slice_get (slice_set xs i y) i ≡ Some y
set_get_same [] i y h = absurd (omega arith)
set_get_same (x ∷ xs) zero y h = refl
set_get_same (x ∷ xs) (suc i) y h = set_get_same xs i y (omega arith)

pub set_get_other : {X : Type 0} (xs : List X) (i j : ℕ) (y : X) → j ≢ i → slice_get (slice_set xs i y) j ≡ slice_get xs j
set_get_other [] i j y n = refl
set_get_other (x ∷ xs) zero zero y n = absurd (n refl)
set_get_other (x ∷ xs) zero (suc j) y n = refl
set_get_other (x ∷ xs) (suc i) zero y n = refl
set_get_other (x ∷ xs) (suc i) (suc j) y n = set_get_other xs i j y (λ e. n (ap suc e))

pub slice_get_there : {X : Type 0} (xs : List X) (i : ℕ) → i < length xs → (x : X) × (slice_get xs i ≡ Some x)
slice_get_there [] i h = absurd (omega arith)
slice_get_there (x ∷ xs) zero h = (x, refl)
slice_get_there (x ∷ xs) (suc i) h = slice_get_there xs i (omega arith)

pub set_set : {X : Type 0} (xs : List X) (i : ℕ) (x y : X) → slice_set (slice_set xs i x) i y ≡ slice_set xs i y
set_set [] i x y = refl
set_set (z ∷ xs) zero x y = refl
set_set {X} (z ∷ xs) (suc i) x y = ap (λ (ys : List X). z ∷ ys) (set_set xs i x y)

-- v and c after a write that keeps them
pub same_taken : (xs : List Slot) (k i : ℕ) (y : Slot) → taken_in (Some y) ≡ taken_in (slice_get xs k) → taken_in (slice_get (slice_set xs k y) i) ≡ taken_in (slice_get xs i)
same_taken [] k i y e = refl
same_taken (x ∷ xs) zero zero y e = e
same_taken (x ∷ xs) zero (suc i) y e = refl
same_taken (x ∷ xs) (suc k) zero y e = refl
same_taken (x ∷ xs) (suc k) (suc i) y e = same_taken xs k i y e

-- v and c after any write
pub set_taken : (xs : List Slot) (k i : ℕ) (y : Slot) (t : Taken) → taken_in (slice_get (slice_set xs k y) i) ≡ Some t → ((i ≡ k) × (taken_in (Some y) ≡ Some t)) ⊎ ((i ≢ k) × (taken_in (slice_get xs i) ≡ Some t))
set_taken [] k i y t h = absurd (cc)
set_taken (x ∷ xs) zero zero y t h = inl (refl, h)
set_taken (x ∷ xs) zero (suc i) y t h = inr (omega arith, h)
set_taken (x ∷ xs) (suc k) zero y t h = inr (omega arith, h)
set_taken (x ∷ xs) (suc k) (suc i) y t h = elim (set_taken xs k i y t h) [ inl e ↦ inl (omega arith, e.1) | inr e ↦ inr ((λ j. e.0 (omega arith)), e.1) ]

pub set_slots : (xs : List Slot) (k : ℕ) (y : Slot) (n d : ℕ) → HasSlots (length xs) n d → HasSlots (length (slice_set xs k y)) n d
set_slots xs k y n d h = subst (λ l. HasSlots l n d) (sym (set_length xs k y)) h

-- where a packet is left, there is a slot for each
pub wide : (l n d : ℕ) → HasSlots l n d → d < n → l ≡ n
wide l n d (inl e) lt = e
wide l n d (inr e) lt = absurd (omega (arith, e.1, lt))

pub free_at : (n i : ℕ) (s : Slot) → slice_get (replicate n Free) i ≡ Some s → s ≡ Free
free_at zero i s h = absurd (cc)
free_at (suc n) zero s h = cc
free_at (suc n) (suc i) s h = free_at n i s h

pub free_taken : (n i : ℕ) (t : Taken) → taken_in (slice_get (replicate n Free) i) ≡ Some t → ⊥
free_taken zero i t h = cc
free_taken (suc n) zero t h = cc
free_taken (suc n) (suc i) t h = free_taken n i t h

pub free_length : (n : ℕ) → length (replicate n Free) ≡ n
free_length zero = refl
free_length (suc n) = ap suc (free_length n)
