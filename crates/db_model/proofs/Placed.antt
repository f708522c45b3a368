-- What an index knows by name, as it is built and as it is asked.
use Rattle.std.specs.Prelude.{◌≡◌, ℕ, zero, suc, ◌+◌, ◌<◌, ◌≤◌, Bool, true, false, cond, if◌then◌else◌, nat_eq, Vec, List, [], ◌∷◌, ◌++◌, map, length, take, drop, slice_get, bytes_eq, unwrap_or, Option, Some, None}
use Rattle.std.specs.Cmp.Lexicographic.{pointwise}
use Rattle.std.specs.Map.{lookup}
use Rattle.std.proofs.Common.{refl, sym, ap, subst, ◌∙◌, true≢false, arith}
use Rattle.std.proofs.Math.ListN.{get_or}
use Rattle.std.proofs.lemmas.List.{at_drop_more, take_more, map-append, length-map}
use Rattle.std.proofs.lemmas.Slice.Eq.{bytes_eq-Decides}
use Rattle.db_model.specs.Names.{Text, place}
use Rattle.db_model.specs.NameIndex.{Numbers, IsPlaces, AllPlaces}

pub place_within : (name : Text) (names : List Text) → place name names ≤ length names
place_within name [] = omega arith
place_within name (x ∷ names) = by (bytes_eq name x) (place_within name names)
  where
    by : (b : Bool) → place name names ≤ length names → (if b then zero else suc (place name names)) ≤ suc (length names)
    by true h = omega arith
    by false h = omega (arith, h)

pub is_within : {X : Type 0} (f : X → Text) (xs : List X) (name : Text) (n : ℕ) → n ≡ place name (map f xs) → n ≤ length xs
is_within f xs name n e = omega (arith, e, place_within name (map f xs), length-map xs f)

-- what an index says of a name is its place
pub place_known : {X : Type 0} (f : X → Text) (xs ys : List X) (ns : Numbers) (name : Text) (n : ℕ) → IsPlaces (map f xs) ns → ys ≡ xs → n ≡ unwrap_or (lookup (bytes_eq name) ns) (length ys) → n ≡ place name (map f xs)
place_known f xs ys ns name n h e g = g ∙ ap (λ (k : ℕ). unwrap_or (lookup (bytes_eq name) ns) k) (ap length e ∙ sym (length-map xs f)) ∙ h name

-- a name that is looked for behind further numbers
pub lookup_behind : (name : Text) (ns : Numbers) (x : Text) (i : ℕ) → lookup (bytes_eq name) ns ≡ None → lookup (bytes_eq name) (ns ++ (x, i) ∷ []) ≡ cond (bytes_eq name x) (Some i) None
lookup_behind name [] x i h = refl
lookup_behind name (n ∷ ns) x i h = by (bytes_eq name n.0) h (lookup_behind name ns x i)
  where
    by : (b : Bool) → cond b (Some n.1) (lookup (bytes_eq name) ns) ≡ None → (lookup (bytes_eq name) ns ≡ None → lookup (bytes_eq name) (ns ++ (x, i) ∷ []) ≡ cond (bytes_eq name x) (Some i) None) → cond b (Some n.1) (lookup (bytes_eq name) (ns ++ (x, i) ∷ [])) ≡ cond (bytes_eq name x) (Some i) None
    by true g later = (cc)
    by false g later = later g

pub lookup_before : (name : Text) (ns : Numbers) (x : Text) (i j : ℕ) → lookup (bytes_eq name) ns ≡ Some j → lookup (bytes_eq name) (ns ++ (x, i) ∷ []) ≡ Some j
lookup_before name [] x i j h = (cc)
lookup_before name (n ∷ ns) x i j h = by (bytes_eq name n.0) h (lookup_before name ns x i j)
  where
    by : (b : Bool) → cond b (Some n.1) (lookup (bytes_eq name) ns) ≡ Some j → (lookup (bytes_eq name) ns ≡ Some j → lookup (bytes_eq name) (ns ++ (x, i) ∷ []) ≡ Some j) → cond b (Some n.1) (lookup (bytes_eq name) (ns ++ (x, i) ∷ [])) ≡ Some j
    by true g later = g
    by false g later = later g

-- the numbers of the names before a place, with the names from there on
abbrev pub SoFar : List Text → Numbers → ℕ → List Text → Type 0
SoFar names ns i left = (name : Text) → unwrap_or (lookup (bytes_eq name) ns) (i + place name left) ≡ place name names

-- a name that is new gets the place at which it stands
pub new_name : (names : List Text) (ns : Numbers) (i : ℕ) (x : Text) (left : List Text) → lookup (bytes_eq x) ns ≡ None → SoFar names ns i (x ∷ left) → SoFar names (ns ++ (x, i) ∷ []) (i + 1) left
new_name names ns i x left new h name = by (lookup (bytes_eq name) ns) refl (h name)
  where
    at : (b : Bool) → i + (if b then zero else suc (place name left)) ≡ place name names → unwrap_or (cond b (Some i) None) (i + 1 + place name left) ≡ place name names
    at true g = let z : i ≡ i + zero = omega arith in z ∙ g
    at false g = let z : i + 1 + place name left ≡ i + suc (place name left) = omega arith in z ∙ g

    by : (o : Option ℕ) → lookup (bytes_eq name) ns ≡ o → unwrap_or o (i + place name (x ∷ left)) ≡ place name names → unwrap_or (lookup (bytes_eq name) (ns ++ (x, i) ∷ [])) (i + 1 + place name left) ≡ place name names
    by (Some j) e g = ap (λ (r : Option ℕ). unwrap_or r (i + 1 + place name left)) (lookup_before name ns x i j e) ∙ g
    by None e g = ap (λ (r : Option ℕ). unwrap_or r (i + 1 + place name left)) (lookup_behind name ns x i e) ∙ at (bytes_eq name x) g

-- a name that was there keeps its first place
pub old_name : (names : List Text) (ns : Numbers) (i j : ℕ) (x : Text) (left : List Text) → lookup (bytes_eq x) ns ≡ Some j → SoFar names ns i (x ∷ left) → SoFar names ns (i + 1) left
old_name names ns i j x left old h name = by (lookup (bytes_eq name) ns) refl (h name)
  where
    at : (b : Bool) → bytes_eq name x ≡ b → lookup (bytes_eq name) ns ≡ None → i + (if b then zero else suc (place name left)) ≡ place name names → i + 1 + place name left ≡ place name names
    at true s e g = let same : name ≡ x = (bytes_eq-Decides name x).0 s in let found : lookup (bytes_eq name) ns ≡ Some j = subst (λ (n : Text). lookup (bytes_eq n) ns ≡ Some j) (sym same) old in (cc)
    at false s e g = let z : i + 1 + place name left ≡ i + suc (place name left) = omega arith in z ∙ g

    by : (o : Option ℕ) → lookup (bytes_eq name) ns ≡ o → unwrap_or o (i + place name (x ∷ left)) ≡ place name names → unwrap_or (lookup (bytes_eq name) ns) (i + 1 + place name left) ≡ place name names
    by (Some j) e g = ap (λ (r : Option ℕ). unwrap_or r (i + 1 + place name left)) e ∙ g
    by None e g = ap (λ (r : Option ℕ). unwrap_or r (i + 1 + place name left)) e ∙ at (bytes_eq name x) refl e g

pub all_names_so_far : (names : List Text) (ns : Numbers) (i : ℕ) → i ≡ length names → SoFar names ns i [] → IsPlaces names ns
all_names_so_far names ns i e h name = let z : length names ≡ i + zero = omega (arith, e) in ap (λ (n : ℕ). unwrap_or (lookup (bytes_eq name) ns) n) z ∙ h name

-- ---- lists of places

pub places_behind : (names : List (List Text)) (ns : List Numbers) (x : List Text) (n : Numbers) → AllPlaces names ns → IsPlaces x n → AllPlaces (names ++ x ∷ []) (ns ++ n ∷ [])
places_behind [] [] x n h k = (k, tt)
places_behind [] (m ∷ ns) x n h k = absurd h
places_behind (y ∷ names) [] x n h k = absurd h
places_behind (y ∷ names) (m ∷ ns) x n h k = (h.0, places_behind names ns x n h.1 k)

-- ---- a map, as names with their numbers

abbrev pub shown : {S : Type 0} → List (Vec ℕ S × ℕ) → Numbers
shown es = map {B = Text × ℕ} (λ e. (e.0.items, e.1)) es

pub shown_lookup : {S : Type 0} (name : Text) (es : List (Vec ℕ S × ℕ)) → lookup (λ k. pointwise nat_eq name k.items) es ≡ lookup (bytes_eq name) (shown es)
shown_lookup name [] = refl
shown_lookup name (e ∷ es) = ap (cond (bytes_eq name e.0.items) (Some e.1)) (shown_lookup name es)

shown_behind : {S : Type 0} (es : List (Vec ℕ S × ℕ)) (k : Vec ℕ S) (v : ℕ) → shown (es ++ (k, v) ∷ []) ≡ shown es ++ (k.items, v) ∷ []
shown_behind [] k v = refl
shown_behind (e ∷ es) k v = ap (λ (l : Numbers). (e.0.items, e.1) ∷ l) (shown_behind es k v)

pub shown_added : {S : Type 0} (es fs : List (Vec ℕ S × ℕ)) (k : Vec ℕ S) (v : ℕ) (old : Numbers) (name : Text) → fs ≡ es ++ (k, v) ∷ [] → shown es ≡ old → k.items ≡ name → shown fs ≡ old ++ (name, v) ∷ []
shown_added es fs k v old name e h g = ap shown e ∙ shown_behind es k v ∙ ap (λ (l : Numbers). l ++ (k.items, v) ∷ []) h ∙ ap (λ (n : Text). old ++ (n, v) ∷ []) g

-- ---- a walk over declarations

module _ {X : Type 0} (f : X → Text) where
  left_at : (xs : List X) (i : ℕ) (d : X) → i < length xs → d ≡ get_or xs i d → map f (drop i xs) ≡ f d ∷ map f (drop (i + 1) xs)
  left_at xs i d within e = at_drop_more (map f) xs i d within ∙ ap (λ y. f y ∷ map f (drop (i + 1) xs)) (sym e)

  pub walk_new : (xs : List X) (i : ℕ) (d : X) (ns more : Numbers) (name : Text) → i < length xs → d ≡ get_or xs i d → name ≡ f d → lookup (bytes_eq name) ns ≡ None → more ≡ ns ++ (name, i) ∷ [] → SoFar (map f xs) ns i (map f (drop i xs)) → SoFar (map f xs) more (i + 1) (map f (drop (i + 1) xs))
  walk_new xs i d ns more name within e s new m h =
      subst (λ l. SoFar (map f xs) l (i + 1) (map f (drop (i + 1) xs))) (sym m)
      (new_name (map f xs) ns i name (map f (drop (i + 1) xs)) new (subst (λ l. SoFar (map f xs) ns i l) (left_at xs i d within e ∙ ap (λ (n : Text). n ∷ map f (drop (i + 1) xs)) (sym s)) h))

  pub walk_old : (xs : List X) (i j : ℕ) (d : X) (ns : Numbers) (name : Text) → i < length xs → d ≡ get_or xs i d → name ≡ f d → lookup (bytes_eq name) ns ≡ Some j → SoFar (map f xs) ns i (map f (drop i xs)) → SoFar (map f xs) ns (i + 1) (map f (drop (i + 1) xs))
  walk_old xs i j d ns name within e s old h =
      old_name (map f xs) ns i j name (map f (drop (i + 1) xs)) old (subst (λ l. SoFar (map f xs) ns i l) (left_at xs i d within e ∙ ap (λ (n : Text). n ∷ map f (drop (i + 1) xs)) (sym s)) h)

-- ---- the places of each of some declarations

module _ {X : Type 0} (f : X → List Text) where
  pub walk_places : (xs : List X) (i : ℕ) (d : X) (all more : List Numbers) (n : Numbers) → i < length xs → d ≡ get_or xs i d → AllPlaces (map f (take i xs)) all → IsPlaces (f d) n → more ≡ all ++ n ∷ [] → AllPlaces (map f (take (i + 1) xs)) more
  walk_places xs i d all more n within e h k m =
      let taken : map f (take i xs) ++ f d ∷ [] ≡ map f (take (i + 1) xs) = ap (λ y. map f (take i xs) ++ f y ∷ []) e ∙ sym (ap (map f) (take_more xs i d within) ∙ map-append f (take i xs) (get_or xs i d ∷ [])) in
      subst (λ l. AllPlaces l more) taken (subst (λ l. AllPlaces (map f (take i xs) ++ f d ∷ []) l) (sym m) (places_behind (map f (take i xs)) all (f d) n h k))

  pub place_at : (xs : List X) (ns : List Numbers) (i : ℕ) (x : X) (n : Numbers) (name : Text) → AllPlaces (map f xs) ns → slice_get xs i ≡ Some x → slice_get ns i ≡ Some n → unwrap_or (lookup (bytes_eq name) n) (length (f x)) ≡ place name (f x)
  place_at [] [] i x n name h e g = (cc)
  place_at [] (m ∷ ns) i x n name h e g = absurd h
  place_at (y ∷ xs) [] i x n name h e g = absurd h
  place_at (y ∷ xs) (m ∷ ns) zero x n name h e g = let same : y ≡ x = cc in let held : m ≡ n = cc in subst (λ l. IsPlaces (f x) l) held (subst (λ z. IsPlaces (f z) m) same h.0) name
  place_at (y ∷ xs) (m ∷ ns) (suc i) x n name h e g = place_at xs ns i x n name h.1 e g

  pub none_missing : (xs : List X) (ns : List Numbers) (i : ℕ) (x : X) → AllPlaces (map f xs) ns → slice_get xs i ≡ Some x → slice_get ns i ≡ None → ⊥
  none_missing [] [] i x h e g = (cc)
  none_missing [] (m ∷ ns) i x h e g = absurd h
  none_missing (y ∷ xs) [] i x h e g = absurd h
  none_missing (y ∷ xs) (m ∷ ns) zero x h e g = (cc)
  none_missing (y ∷ xs) (m ∷ ns) (suc i) x h e g = none_missing xs ns i x h.1 e g
