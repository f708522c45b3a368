-- Where a thing is found in a list, and what is found after a write or a push.
use Rattle.std.proofs.Common.{◌≡◌, ℕ, ◌<◌, ◌≤◌, Bool, true, false, cond, List, [], ◌∷◌, ◌++◌, length, set, get_or, Some, None, Option, refl, sym, ◌∙◌, nat_lt, arith}
use Rattle.std.specs.List.{find, position, position_or_len}
use Rattle.std.specs.Option.{option_or}
use Rattle.std.proofs.lemmas.Bool.Decides.{nat_tests}
use Rattle.std.proofs.lemmas.Option.{slice_get_past, slice_get-get_or, cond_some}
use Rattle.std.proofs.lemmas.List.Folds.{find-set, find_at, find-append}

pub false_unless_true : (b : Bool) → (b ≡ true → ⊥) → b ≡ false
false_unless_true true h = absurd (h refl)
false_unless_true false h = refl

cond_none : {A : Type 0} (b : Bool) (x : A) → None ≡ cond b (Some x) None → b ≡ false
cond_none true x e = cc
cond_none false x e = refl

module _ {X : Type 0} (p : X → Bool) where
  pub find-none : (xs : List X) → None ≡ position p xs → find p xs ≡ None
  find-none xs none =
      let past = cond_none (nat_lt (position_or_len p xs) (length xs)) (position_or_len p xs) none in
      let le : length xs ≤ position_or_len p xs = grind (arith, nat_tests) in
      find_at p xs ∙ slice_get_past xs (position_or_len p xs) le

  -- nothing was found, and one more is at the end
  pub find-push : (xs : List X) (y : X) → None ≡ position p xs → p y ≡ true → find p (xs ++ y ∷ []) ≡ Some y
  find-push xs y none meant = rw (find-append p xs (y ∷ []), find-none xs none, meant)

  -- one more is at the end that isn't meant
  pub find-push_past : (xs : List X) (y : X) → p y ≡ false → find p (xs ++ y ∷ []) ≡ find p xs
  find-push_past xs y past = rw (find-append p xs (y ∷ []), past) (or_none (find p xs))
    where
      or_none : (o : Option X) → option_or o None ≡ o
      or_none None = refl
      or_none (Some x) = refl

  pub find-first : (xs : List X) (i : ℕ) (d : X) → Some i ≡ position p xs → i < length xs → find p xs ≡ Some (get_or xs i d)
  find-first xs i d some within =
      let first = cond_some (nat_lt (position_or_len p xs) (length xs)) (position_or_len p xs) i (sym some) in
      find_at p xs ∙ rw first.1 (slice_get-get_or xs i d within)

  -- what was found first is replaced
  pub find-set_first : (xs : List X) (i : ℕ) (y : X) → Some i ≡ position p xs → i < length xs → p y ≡ true → find p (set xs i y) ≡ Some y
  find-set_first xs i y some within meant =
      let first = cond_some (nat_lt (position_or_len p xs) (length xs)) (position_or_len p xs) i (sym some) in
      find-set p xs i y (sym first.1) within meant
