-- The decoded fields of a protocol by their numbers: whether one has a value, and where its last value stands.
use Rattle.std.specs.Prelude.{ℕ, zero, suc, Bool, true, false, ◌==◌, ◌||◌, ◌≡◌, List, [], ◌∷◌, slice_index, Option, Some, None}

-- a field of number n has a value
abbrev pub has_number : ℕ → List (ℕ × List ℕ) → Bool
has_number n [] = false
has_number n (f ∷ fs) = n == f.0 || has_number n fs

-- a place behind the first one, or else the first one where it is so
abbrev pub behind_or_here : Bool → Option ℕ → Option ℕ
behind_or_here here (Some at) = Some (suc at)
behind_or_here true None = Some zero
behind_or_here false None = None

-- the place of the last value of the field of number n
abbrev pub last_place : ℕ → List (ℕ × List ℕ) → Option ℕ
last_place n [] = None
last_place n (f ∷ fs) = behind_or_here (n == f.0) (last_place n fs)

-- the place that is kept as 1 more, and none as 0
abbrev pub place_of : ℕ → Option ℕ
place_of zero = None
place_of (suc at) = Some at

-- the place of the last value is kept for the field of each number
abbrev pub KeepsLast : List (ℕ × List ℕ) → List ℕ → Type 0
KeepsLast values last = (n : ℕ) → place_of (slice_index last n) ≡ last_place n values
