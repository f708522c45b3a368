-- Walks along the entries of a part.
use Rattle.std.specs.Prelude.{◌≡◌, ℕ, zero, suc, min, ◌+◌, ◌<◌, ◌≤◌, Bool, true, false, if◌then◌else◌, ◌==◌, List, [], ◌∷◌, ◌++◌, length, slice_get, find, remove, IsSome, Option, Some, None}
use Rattle.std.proofs.Common.{refl, sym, ap, subst, ◌∙◌, arith, get_or, drop, take, add-one, rules}
use Rattle.std.specs.Option.{option_eq}
use Rattle.std.proofs.lemmas.List.{drop_more, drop_all, take_more, take_all, append_assoc, append-nil}
use Rattle.std.proofs.lemmas.Option.{slice_get_read}
use Rattle.db_model.specs.declared.entry.Entry.{Entry}
use Rattle.db_model.specs.Table.{live, if_live, sooner, soonest, evict}

-- the list from a place on, whose first element was read
pub rest_at : {X : Type 0} (xs : List X) (i : ℕ) (x : X) → i < length xs → x ≡ get_or xs i x → drop i xs ≡ x ∷ drop (i + 1) xs
rest_at xs i x h p = drop_more xs i x h ∙ ap (λ y. y ∷ drop (i + 1) xs) (sym p)

-- ---- the first that passes

module _ {X : Type 0} (p : X → Bool) where
  pub find_here : (xs : List X) (i : ℕ) (x : X) (o : Option X) → i < length xs → x ≡ get_or xs i x → p x ≡ true → find p (drop i xs) ≡ o → slice_get xs i ≡ o
  find_here xs i x o h g t e =
      slice_get_read xs (length xs) i x refl h g
      ∙ sym (ap (λ (b : Bool). if b then Some x else find p (drop (i + 1) xs)) t)
      ∙ sym (ap (find p) (rest_at xs i x h g)) ∙ e

  pub find_next : (xs : List X) (i : ℕ) (x : X) (o : Option X) → i < length xs → x ≡ get_or xs i x → p x ≡ false → find p (drop i xs) ≡ o → find p (drop (i + 1) xs) ≡ o
  find_next xs i x o h g t e =
      sym (ap (λ (b : Bool). if b then Some x else find p (drop (i + 1) xs)) t)
      ∙ sym (ap (find p) (rest_at xs i x h g)) ∙ e

  pub find_end : (xs : List X) (i : ℕ) (o : Option X) → length xs ≤ i → find p (drop i xs) ≡ o → None ≡ o
  find_end xs i o h e = sym (ap (find p) (drop_all i xs h)) ∙ e

-- the first that passes, where it lives
pub live_here : (p : Entry → Bool) (t : ℕ) (xs : List Entry) (i : ℕ) (e : Entry) (o : Option Entry) → i < length xs → e ≡ get_or xs i e → p e ≡ true → find p (drop i xs) ≡ o → live e t ≡ true → slice_get xs i ≡ if_live t o
live_here p t xs i e o h g k f l =
    let s : slice_get xs i ≡ Some e = slice_get_read xs (length xs) i e refl h g in
    let r : o ≡ Some e = sym (find_here p xs i e o h g k f) ∙ s in
    s ∙ sym (ap (λ (b : Bool). if b then Some e else None) l) ∙ ap (if_live t) (sym r)

-- ---- the least deadline

sooner_none : (a : Option ℕ) → sooner a None ≡ a
sooner_none None = refl
sooner_none (Some a) = refl

sooner_assoc : (a b c : Option ℕ) → sooner (sooner a b) c ≡ sooner a (sooner b c)
sooner_assoc None b c = refl
sooner_assoc (Some a) None c = refl
sooner_assoc (Some a) (Some b) None = refl
sooner_assoc (Some a) (Some b) (Some c) = let e : min (min a b) c ≡ min a (min b c) = omega arith in ap Some e

pub soonest_more : (es : List Entry) (i : ℕ) (e : Entry) (least all : Option ℕ) → i < length es → e ≡ get_or es i e → sooner least (soonest (drop i es)) ≡ all → sooner (sooner least e.deadline) (soonest (drop (i + 1) es)) ≡ all
soonest_more es i e least all h g p =
    sooner_assoc least e.deadline (soonest (drop (i + 1) es)) ∙ sym (ap (λ l. sooner least (soonest l)) (rest_at es i e h g)) ∙ p

pub soonest_end : (es : List Entry) (i : ℕ) (least all : Option ℕ) → length es ≤ i → sooner least (soonest (drop i es)) ≡ all → least ≡ all
soonest_end es i least all h p = sym (sooner_none least) ∙ sym (ap (λ l. sooner least (soonest l)) (drop_all i es h)) ∙ p

-- ---- the first with a deadline

module _ (t : ℕ) where
  abbrev due : Entry → Bool
  due e = option_eq ◌==◌ e.deadline (Some t)

  pub evict_here : (es : List Entry) (i : ℕ) (e : Entry) (all : List Entry) → i < length es → e ≡ get_or es i e → option_eq ◌==◌ e.deadline (Some t) ≡ true → take i es ++ evict t (drop i es) ≡ all → all ≡ remove es i
  evict_here es i e all h g d p =
      sym p ∙ ap (λ l. take i es ++ evict t l) (rest_at es i e h g)
      ∙ ap (λ (b : Bool). take i es ++ (if b then drop (i + 1) es else e ∷ evict t (drop (i + 1) es))) d
      ∙ ap (λ (n : ℕ). take i es ++ drop n es) (add-one i)

  pub evict_next : (es : List Entry) (i : ℕ) (e : Entry) (all : List Entry) → i < length es → e ≡ get_or es i e → option_eq ◌==◌ e.deadline (Some t) ≡ false → take i es ++ evict t (drop i es) ≡ all → take (i + 1) es ++ evict t (drop (i + 1) es) ≡ all
  evict_next es i e all h g d p =
      ap (λ l. l ++ evict t (drop (i + 1) es)) (take_more es i e h ∙ ap (λ x. take i es ++ x ∷ []) (sym g))
      ∙ append_assoc (take i es) (e ∷ []) (evict t (drop (i + 1) es))
      ∙ sym (ap (λ (b : Bool). take i es ++ (if b then drop (i + 1) es else e ∷ evict t (drop (i + 1) es))) d)
      ∙ sym (ap (λ l. take i es ++ evict t l) (rest_at es i e h g)) ∙ p

  pub evict_end : (es : List Entry) (i : ℕ) (all : List Entry) → length es ≤ i → take i es ++ evict t (drop i es) ≡ all → all ≡ es
  evict_end es i all h p = sym p ∙ ap (λ l. take i es ++ evict t l) (drop_all i es h) ∙ append-nil (take i es) ∙ take_all i es h

-- a number within a list has an element
pub there_within : {X : Type 0} (xs : List X) (i : ℕ) → i < length xs → IsSome (slice_get xs i)
there_within [] i h = absurd (omega (arith, h))
there_within (x ∷ xs) zero h = search rules
there_within (x ∷ xs) (suc i) h = there_within xs i (omega (arith, h))
