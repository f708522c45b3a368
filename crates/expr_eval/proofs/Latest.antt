-- The last of the decoded fields that has one of some numbers: the latest of the last ones of each number.
use Rattle.std.specs.Prelude.{◌≡◌, ℕ, zero, suc, ◌+◌, ◌<◌, ◌≤◌, max, Bool, true, false, if◌then◌else◌, ◌==◌, ◌||◌, List, [], ◌∷◌, length, drop, slice_get, MatchOption, Option, Some, None}
use Rattle.std.proofs.Common.{refl, sym, ap, ◌∙◌, arith, get_or}
use Rattle.std.proofs.lemmas.List.{at_drop_more, at_drop_all}
use Rattle.db_model.specs.LastValue.{has_number, behind_or_here, last_place}
use Rattle.expr_code.specs.Meaning.{is_in, last_in, some_in}
use Rattle.expr_eval.specs.Latest.{later}
use Rattle.expr_eval.specs.Operand.{bytes_at}

-- ---- the later one of two places

later_none : (a : Option ℕ) → later a None ≡ a
later_none None = refl
later_none (Some a) = refl

later_assoc : (a b c : Option ℕ) → later (later a b) c ≡ later a (later b c)
later_assoc None b c = refl
later_assoc (Some a) None c = refl
later_assoc (Some a) (Some b) None = refl
later_assoc (Some a) (Some b) (Some c) = let e : max (max a b) c ≡ max a (max b c) = omega arith in ap (λ (n : ℕ). Some n) e

further : (p q : Bool) (a b : Option ℕ) → later (behind_or_here p a) (behind_or_here q b) ≡ behind_or_here (p || q) (later a b)
further true true None None = let e : max 0 0 ≡ 0 = omega arith in ap (λ (n : ℕ). Some n) e
further true false None None = refl
further false q None None = refl
further true q None (Some b) = let e : max 0 (suc b) ≡ suc b = omega arith in ap (λ (n : ℕ). Some n) e
further false q None (Some b) = refl
further p true (Some a) None = let e : max (suc a) 0 ≡ suc a = omega arith in ap (λ (n : ℕ). Some n) e
further p false (Some a) None = refl
further p q (Some a) (Some b) = let e : max (suc a) (suc b) ≡ suc (max a b) = omega arith in ap (λ (n : ℕ). Some n) e

-- ---- the last field of some numbers

pub latest_of : List ℕ → List (ℕ × List ℕ) → Option ℕ
latest_of [] xs = None
latest_of (n ∷ ns) xs = later (last_place n xs) (latest_of ns xs)

none_of : (ns : List ℕ) → latest_of ns [] ≡ None
unfolding latest_of
none_of [] = refl
none_of (n ∷ ns) = none_of ns

latest_behind : (ns : List ℕ) (x : ℕ × List ℕ) (xs : List (ℕ × List ℕ)) → latest_of ns (x ∷ xs) ≡ behind_or_here (is_in ns x.0) (latest_of ns xs)
unfolding latest_of
latest_behind [] x xs = refl
latest_behind (n ∷ ns) x xs = ap (later (behind_or_here (n == x.0) (last_place n xs))) (latest_behind ns x xs) ∙ further (n == x.0) (is_in ns x.0) (last_place n xs) (latest_of ns xs)

-- the value at a place, or the one before
value_at : List (ℕ × List ℕ) → Option ℕ → Option (List ℕ) → Option (List ℕ)
value_at xs None before = before
value_at xs (Some at) before = Some (bytes_at (slice_get xs at))

value_behind : (here : Bool) (x : ℕ × List ℕ) (xs : List (ℕ × List ℕ)) (o : Option ℕ) (before : Option (List ℕ)) → value_at xs o (if here then Some x.1 else before) ≡ value_at (x ∷ xs) (behind_or_here here o) before
unfolding value_at
value_behind true x xs None before = refl
value_behind false x xs None before = refl
value_behind true x xs (Some at) before = refl
value_behind false x xs (Some at) before = refl

found : (ns : List ℕ) (xs : List (ℕ × List ℕ)) (before : Option (List ℕ)) → last_in ns xs before ≡ value_at xs (latest_of ns xs) before
unfolding value_at
found ns [] before = ap (λ (o : Option ℕ). value_at [] o before) (sym (none_of ns))
found ns (x ∷ xs) before =
    found ns xs (if is_in ns x.0 then Some x.1 else before) ∙ value_behind (is_in ns x.0) x xs (latest_of ns xs) before
    ∙ ap (λ (o : Option ℕ). value_at (x ∷ xs) o before) (sym (latest_behind ns x xs))

-- ---- a walk over the numbers

pub latest_first : (ns : List ℕ) (xs : List (ℕ × List ℕ)) → later None (latest_of ns xs) ≡ latest_of ns xs
latest_first ns xs = refl

-- the latest of the numbers before, and then of the next one
pub latest_next : (ns : List ℕ) (xs : List (ℕ × List ℕ)) (i : ℕ) (so_far one next all : Option ℕ) → i < length ns → one ≡ last_place (get_or ns i 0) xs → next ≡ later so_far one
    → later so_far (latest_of (drop i ns) xs) ≡ all → later next (latest_of (drop (i + 1) ns) xs) ≡ all
unfolding latest_of
latest_next ns xs i so_far one next all within is step h =
    let left : latest_of (drop i ns) xs ≡ later (last_place (get_or ns i 0) xs) (latest_of (drop (i + 1) ns) xs) = at_drop_more (λ l. latest_of l xs) ns i 0 within in
    ap (λ (o : Option ℕ). later o (latest_of (drop (i + 1) ns) xs)) (step ∙ ap (later so_far) is)
    ∙ later_assoc so_far (last_place (get_or ns i 0) xs) (latest_of (drop (i + 1) ns) xs) ∙ ap (later so_far) (sym left) ∙ h

pub latest_all : (ns : List ℕ) (xs : List (ℕ × List ℕ)) (i : ℕ) (so_far : Option ℕ) → length ns ≤ i → later so_far (latest_of (drop i ns) xs) ≡ latest_of ns xs
    → MatchOption so_far (last_in ns xs None ≡ None) (λ at. last_in ns xs None ≡ Some (bytes_at (slice_get xs at)))
unfolding latest_of value_at
latest_all ns xs i so_far end h = by so_far (sym (later_none so_far) ∙ ap (later so_far) (sym left) ∙ h)
  where
    left : latest_of (drop i ns) xs ≡ None
    left = at_drop_all (λ l. latest_of l xs) ns i end

    by : (o : Option ℕ) → o ≡ latest_of ns xs → MatchOption o (last_in ns xs None ≡ None) (λ at. last_in ns xs None ≡ Some (bytes_at (slice_get xs at)))
    by None e = found ns xs None ∙ ap (λ (o : Option ℕ). value_at xs o None) (sym e)
    by (Some at) e = found ns xs None ∙ ap (λ (o : Option ℕ). value_at xs o None) (sym e)

-- ---- whether there is one

swapped : (a b c d : Bool) → ((a || b) || (c || d)) ≡ ((a || c) || (b || d))
swapped true b c d = refl
swapped false true true d = refl
swapped false true false d = refl
swapped false false true d = refl
swapped false false false d = refl

pub some_more : (n : ℕ) (ns : List ℕ) (xs : List (ℕ × List ℕ)) → some_in (n ∷ ns) xs ≡ (has_number n xs || some_in ns xs)
some_more n ns [] = refl
some_more n ns (x ∷ xs) = ap (λ (b : Bool). (n == x.0 || is_in ns x.0) || b) (some_more n ns xs) ∙ swapped (n == x.0) (is_in ns x.0) (has_number n xs) (some_in ns xs)

pub none_in : (xs : List (ℕ × List ℕ)) → some_in [] xs ≡ false
none_in [] = refl
none_in (x ∷ xs) = none_in xs

-- one number after another
pub some_next : (ns : List ℕ) (xs : List (ℕ × List ℕ)) (i : ℕ) (b all : Bool) → i < length ns → b ≡ has_number (get_or ns i 0) xs → some_in (drop i ns) xs ≡ all → (b || some_in (drop (i + 1) ns) xs) ≡ all
some_next ns xs i b all within is h =
    ap (λ (c : Bool). c || some_in (drop (i + 1) ns) xs) is
    ∙ sym (at_drop_more (λ l. some_in l xs) ns i 0 within ∙ some_more (get_or ns i 0) (drop (i + 1) ns) xs) ∙ h

pub some_last : (ns : List ℕ) (xs : List (ℕ × List ℕ)) (i : ℕ) → length ns ≤ i → some_in (drop i ns) xs ≡ false
some_last ns xs i end = at_drop_all (λ l. some_in l xs) ns i end ∙ none_in xs
