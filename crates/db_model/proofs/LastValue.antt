-- What is kept of the numbers of decoded fields, as values are added and let go.
use Rattle.std.specs.Prelude.{◌≡◌, ◌≢◌, ℕ, zero, suc, ◌+◌, ◌<◌, ◌≤◌, Bool, true, false, if◌then◌else◌, ◌==◌, ◌||◌, not, nat_eq, List, [], ◌∷◌, ◌++◌, length, replicate, slice_index, Option, Some, None, is_some}
use Rattle.std.proofs.Common.{refl, sym, ap, ◌∙◌, arith, get_or, set, drop}
use Rattle.std.proofs.lemmas.List.{get_or-set_same, get_or-set_other, get_or_past, at_drop_more, at_drop_all}
use Rattle.db_model.specs.LastValue.{has_number, behind_or_here, last_place, place_of, KeepsLast}

-- ---- where the last value stands

at_end : (b : Bool) → behind_or_here b None ≡ (if b then Some zero else None)
at_end true = refl
at_end false = refl

further : (here b : Bool) (k : ℕ) (o : Option ℕ) → behind_or_here here (if b then Some k else o) ≡ (if b then Some (suc k) else behind_or_here here o)
further here true k o = refl
further here false k o = refl

-- one more value is the last one of its number
pub last_more : (n : ℕ) (xs : List (ℕ × List ℕ)) (f : ℕ × List ℕ) → last_place n (xs ++ f ∷ []) ≡ (if n == f.0 then Some (length xs) else last_place n xs)
last_more n [] f = at_end (n == f.0)
last_more n (x ∷ xs) f = ap (behind_or_here (n == x.0)) (last_more n xs f) ∙ further (n == x.0) (n == f.0) (length xs) (last_place n xs)

is_there : (here : Bool) (o : Option ℕ) → is_some (behind_or_here here o) ≡ (here || is_some o)
is_there true (Some at) = refl
is_there true None = refl
is_there false (Some at) = refl
is_there false None = refl

-- a number has a value where its last one stands somewhere
pub has_last : (n : ℕ) (xs : List (ℕ × List ℕ)) → is_some (last_place n xs) ≡ has_number n xs
has_last n [] = refl
has_last n (x ∷ xs) = is_there (n == x.0) (last_place n xs) ∙ ap (λ (b : Bool). n == x.0 || b) (has_last n xs)

none_there : (o : Option ℕ) → is_some o ≡ false → o ≡ None
none_there None h = refl
none_there (Some at) h = cc

pub no_last : (n : ℕ) (xs : List (ℕ × List ℕ)) → has_number n xs ≡ false → last_place n xs ≡ None
no_last n xs h = none_there (last_place n xs) (has_last n xs ∙ h)

-- ---- what is kept

-- places behind the end keep nothing
pub kept_room : (xs : List ℕ) (k n : ℕ) → get_or (xs ++ replicate k 0) n 0 ≡ get_or xs n 0
kept_room [] zero n = refl
kept_room [] (suc k) zero = refl
kept_room [] (suc k) (suc n) = kept_room [] k n
kept_room (x ∷ xs) k zero = refl
kept_room (x ∷ xs) k (suc n) = kept_room xs k n

-- a value that is added is kept as its number's last one
pub kept_more : (values : List (ℕ × List ℕ)) (last : List ℕ) (f : ℕ × List ℕ) → KeepsLast values last → f.0 < length last → KeepsLast (values ++ f ∷ []) (set last f.0 (suc (length values)))
kept_more values last f h within n = by (n == f.0) refl
  where
    by : (b : Bool) → (n == f.0) ≡ b → place_of (get_or (set last f.0 (suc (length values))) n 0) ≡ last_place n (values ++ f ∷ [])
    by true e =
        let same : n ≡ f.0 = grind arith in
        ap (λ (m : ℕ). place_of (get_or (set last f.0 (suc (length values))) m 0)) same ∙ ap place_of (get_or-set_same last f.0 (suc (length values)) 0 within)
        ∙ sym (last_more n values f ∙ ap (λ (b : Bool). if b then Some (length values) else last_place n values) e)
    by false e =
        let other : n ≢ f.0 = grind arith in
        ap place_of (get_or-set_other last f.0 n (suc (length values)) 0 other) ∙ h n
        ∙ sym (last_more n values f ∙ ap (λ (b : Bool). if b then Some (length values) else last_place n values) e)

-- of the numbers without a value left nothing is kept
abbrev pub KeepsLeft : List (ℕ × List ℕ) → List ℕ → Type 0
KeepsLeft values last = (n : ℕ) → has_number n values ≡ false → place_of (get_or last n 0) ≡ None

pub left_first : (values : List (ℕ × List ℕ)) (last : List ℕ) → KeepsLast values last → KeepsLeft values last
left_first values last h n e = h n ∙ no_last n values e

-- what is kept of the number of the next value, and then of the others
left_by : (values : List (ℕ × List ℕ)) (i : ℕ) (d : ℕ × List ℕ) (last new : List ℕ) → i < length values → d ≡ get_or values i d → KeepsLeft (drop i values) last
    → place_of (get_or new d.0 0) ≡ None → ((n : ℕ) → n ≢ d.0 → get_or new n 0 ≡ get_or last n 0) → KeepsLeft (drop (i + 1) values) new
left_by values i d last new within read h here others n e = by (n == d.0) refl
  where
    by : (b : Bool) → (n == d.0) ≡ b → place_of (get_or new n 0) ≡ None
    by true q = let same : n ≡ d.0 = grind arith in ap (λ (m : ℕ). place_of (get_or new m 0)) same ∙ here
    by false q =
        let other : n ≢ d.0 = grind arith in
        let left : has_number n (drop i values) ≡ false = at_drop_more (has_number n) values i d within ∙ ap (λ (x : ℕ × List ℕ). n == x.0 || has_number n (drop (i + 1) values)) (sym read) ∙ ap (λ (b : Bool). b || has_number n (drop (i + 1) values)) q ∙ e in
        ap place_of (others n other) ∙ h n left

pub left_after : (values : List (ℕ × List ℕ)) (i : ℕ) (d : ℕ × List ℕ) (last : List ℕ) → i < length values → d ≡ get_or values i d → d.0 < length last → KeepsLeft (drop i values) last → KeepsLeft (drop (i + 1) values) (set last d.0 0)
left_after values i d last within read room h =
    left_by values i d last (set last d.0 0) within read h (ap place_of (get_or-set_same last d.0 0 0 room)) (λ n other. get_or-set_other last d.0 n 0 0 other)

pub left_past : (values : List (ℕ × List ℕ)) (i : ℕ) (d : ℕ × List ℕ) (last : List ℕ) → i < length values → d ≡ get_or values i d → length last ≤ d.0 → KeepsLeft (drop i values) last → KeepsLeft (drop (i + 1) values) last
left_past values i d last within read past h =
    left_by values i d last last within read h (ap place_of (get_or_past last d.0 0 past)) (λ n other. refl)

pub left_none : (values : List (ℕ × List ℕ)) (i : ℕ) (last : List ℕ) → length values ≤ i → KeepsLeft (drop i values) last → KeepsLast [] last
left_none values i last end h n = h n (at_drop_all (has_number n) values i end)

is_kept : (k : ℕ) → not (nat_eq k 0) ≡ is_some (place_of k)
is_kept zero = refl
is_kept (suc k) = let e : nat_eq (suc k) 0 ≡ false = grind arith in ap not e

pub tells : (values : List (ℕ × List ℕ)) (last : List ℕ) (n k : ℕ) → KeepsLast values last → k ≡ get_or last n 0 → not (nat_eq k 0) ≡ has_number n values
tells values last n k h e = is_kept k ∙ ap (λ (j : ℕ). is_some (place_of j)) e ∙ ap (λ (o : Option ℕ). is_some o) (h n) ∙ has_last n values
