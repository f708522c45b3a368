-- A name is declared again exactly where its first place isn't its own.
use Rattle.std.specs.Prelude.{◌≡◌, ℕ, zero, suc, ◌+◌, ◌<◌, nat_lt, Bool, true, false, ◌||◌, if◌then◌else◌, List, [], ◌∷◌, ◌++◌, map, length, drop, get_or, slice_get, bytes_eq, unwrap_or, Option, Some}
use Rattle.std.specs.Map.{lookup}
use Rattle.std.proofs.Common.{refl, ap, sym, ◌∙◌, append_assoc, arith}
use Rattle.std.proofs.lemmas.List.{at_drop_more}
use Rattle.db_cause.specs.declared.cause.Cause.TheVariants as cause
use Rattle.db_model.specs.declared.database.ColumnDecl.{ColumnDecl}
use Rattle.db_model.specs.declared.database.KeyDecl.{KeyDecl}
use Rattle.db_model.specs.declared.database.TableDecl.{TableDecl}
use Rattle.db_model.specs.declared.fault.Fault.{Fault}
use Rattle.db_model.specs.LeastFault.{earlier}
use Rattle.db_model.specs.Lines.{Lines, at_line}
use Rattle.db_model.specs.NameFaults.{Declared, repeated, repeated_in_table}
use Rattle.db_model.specs.Names.{Text, place}
use Rattle.db_model.specs.NameIndex.{Numbers, IsPlaces}
use Rattle.db_model.specs.Typing.{is_among}
use Rattle.db_model.proofs.Placed.{place_known}
use Rattle.db_model.proofs.LeastFault.{earlier_assoc}
use Rattle.db_check.specs.First.{first}
use Rattle.db_check.specs.Repeats.{repeated_from}
use Rattle.db_check.proofs.FirstFault.{first_append}

lt_suc : (a b : ℕ) → nat_lt (suc a) (suc b) ≡ nat_lt a b
lt_suc a b = grind arith

pub lt_zero : (a : ℕ) → nat_lt a zero ≡ false
lt_zero a = grind arith

zero_lt : (b : ℕ) → nat_lt zero (suc b) ≡ true
zero_lt b = grind arith

or_true : (a : Bool) → (a || true) ≡ true
or_true true = refl
or_true false = refl

or_false : (a : Bool) → (a || false) ≡ a
or_false true = refl
or_false false = refl

or_assoc : (a b c : Bool) → ((a || b) || c) ≡ (a || (b || c))
or_assoc true b c = refl
or_assoc false b c = refl

-- the first place of a name is before the next one where it is that name, or its place was before
pub place_next : (n m : Text) (all : List Text) (i : ℕ) → slice_get all i ≡ Some m → nat_lt (place n all) (suc i) ≡ (bytes_eq n m || nat_lt (place n all) i)
place_next n m [] i h = (cc)
place_next n m (x ∷ all) zero h = let same : x ≡ m = cc in by (bytes_eq n x) ∙ ap (λ y. bytes_eq n y || nat_lt (place n (x ∷ all)) zero) same
  where
    by : (b : Bool) → nat_lt (if b then zero else suc (place n all)) (suc zero) ≡ (b || nat_lt (if b then zero else suc (place n all)) zero)
    by true = zero_lt zero
    by false = lt_suc (place n all) zero ∙ (lt_zero (place n all) ∙ sym (lt_zero (suc (place n all))))
place_next n m (x ∷ all) (suc i) h = by (bytes_eq n x) (place_next n m all i h)
  where
    by : (b : Bool) → nat_lt (place n all) (suc i) ≡ (bytes_eq n m || nat_lt (place n all) i) → nat_lt (if b then zero else suc (place n all)) (suc (suc i)) ≡ (bytes_eq n m || nat_lt (if b then zero else suc (place n all)) (suc i))
    by true g = zero_lt (suc i) ∙ (sym (or_true (bytes_eq n m)) ∙ ap (λ b. bytes_eq n m || b) (sym (zero_lt i)))
    by false g = lt_suc (place n all) (suc i) ∙ (g ∙ ap (λ b. bytes_eq n m || b) (sym (lt_suc (place n all) i)))

-- names that are among those before are those with a place before
abbrev Same : List Text → List Text → List Text → ℕ → Type 0
Same before taken all i = (n : Text) → is_among n before ≡ (nat_lt (place n all) i || is_among n taken)

abbrev StandsFrom : List Text → ℕ → List Declared → Type 0
StandsFrom all i [] = Unit {0}
StandsFrom all i (d ∷ ds) = (slice_get all i ≡ Some d.0) × StandsFrom all (suc i) ds

repeated_by : (before taken all : List Text) (i : ℕ) (ds : List Declared) → Same before taken all i → StandsFrom all i ds → repeated before ds ≡ repeated_from taken all i ds
repeated_by before taken all i [] s h = refl
repeated_by before taken all i (d ∷ ds) s h =
    let more : Same (d.0 ∷ before) taken all (suc i) = λ n. ap (λ b. bytes_eq n d.0 || b) (s n) ∙ (sym (or_assoc (bytes_eq n d.0) (nat_lt (place n all) i) (is_among n taken)) ∙ ap (λ b. b || is_among n taken) (sym (place_next n d.0 all i h.0))) in
    (λ j. at_line d.1 (s d.0 j) ++ repeated_by (d.0 ∷ before) taken all (suc i) ds more h.1 j)

stands_more : (x : Text) (all : List Text) (i : ℕ) (ds : List Declared) → StandsFrom all i ds → StandsFrom (x ∷ all) (suc i) ds
stands_more x all i [] h = tt
stands_more x all i (d ∷ ds) h = (h.0, stands_more x all (suc i) ds h.1)

stands : (ds : List Declared) → StandsFrom (map (λ (d : Declared). d.0) ds) zero ds
stands [] = tt
stands (d ∷ ds) = (refl, stands_more d.0 (map (λ (d : Declared). d.0) ds) zero ds (stands ds))

pub repeated_is : (taken : List Text) (ds : List Declared) → repeated taken ds ≡ repeated_from taken (map (λ (d : Declared). d.0) ds) zero ds
repeated_is taken ds = repeated_by taken taken (map (λ (d : Declared). d.0) ds) zero ds (λ n. ap (λ b. b || is_among n taken) (sym (lt_zero (place n (map (λ (d : Declared). d.0) ds))))) (stands ds)

-- ---- the walk

module _ {X : Type 0} (name : X → Text) (line : X → ℕ) where
  abbrev pub declared_as : X → Declared
  declared_as x = (name x, line x)

  names_are : (xs : List X) → map (λ (d : Declared). d.0) (map declared_as xs) ≡ map name xs
  names_are [] = refl
  names_are (x ∷ xs) = ap (λ l. name x ∷ l) (names_are xs)

  pub repeats_are : (taken : List Text) (xs : List X) → repeated taken (map declared_as xs) ≡ repeated_from taken (map name xs) zero (map declared_as xs)
  repeats_are taken xs = repeated_is taken (map declared_as xs) ∙ ap (λ l. repeated_from taken l zero (map declared_as xs)) (names_are xs)

  pub again_is : (xs : List X) (ns : Numbers) (taken : List Text) (i : ℕ) (x : X) (known : Text) (n : ℕ) (b : Bool) → IsPlaces (map name xs) ns → known ≡ name x → n ≡ unwrap_or (lookup (bytes_eq known) ns) (length xs) → b ≡ (nat_lt n i || is_among known taken) → b ≡ (nat_lt (place (name x) (map name xs)) i || is_among (name x) taken)
  again_is xs ns taken i x known n b h e u w = w ∙ (ap (λ (k : ℕ). nat_lt k i || is_among known taken) (place_known name xs xs ns known n h refl u) ∙ ap (λ (t : Text). nat_lt (place t (map name xs)) i || is_among t taken) e)

  pub repeat_next : (taken : List Text) (xs : List X) (i : ℕ) (x : X) (again : Bool) (found one next whole : Option Fault) → i < length xs → x ≡ get_or xs i x → again ≡ (nat_lt (place (name x) (map name xs)) i || is_among (name x) taken) → one ≡ first cause.DeclaredAgain (at_line (line x) again) → next ≡ earlier found one
      → earlier found (first cause.DeclaredAgain (repeated_from taken (map name xs) i (map declared_as (drop i xs)))) ≡ whole → earlier next (first cause.DeclaredAgain (repeated_from taken (map name xs) (i + 1) (map declared_as (drop (i + 1) xs)))) ≡ whole
  repeat_next taken xs i x again found one next whole h e a o n k =
      let more : suc i ≡ i + 1 = omega arith in
      let rest : Lines = repeated_from taken (map name xs) (i + 1) (map declared_as (drop (i + 1) xs)) in
      let here : repeated_from taken (map name xs) i (map declared_as (drop i xs)) ≡ at_line (line x) again ++ rest =
      at_drop_more (λ (l : List X). repeated_from taken (map name xs) i (map declared_as l)) xs i x h
      ∙ (ap (λ y. repeated_from taken (map name xs) i (map declared_as (y ∷ drop (i + 1) xs))) (sym e)
      ∙ (λ j. at_line (line x) (sym a j) ++ repeated_from taken (map name xs) (more j) (map declared_as (drop (i + 1) xs)))) in
      ap (λ b. earlier b (first cause.DeclaredAgain rest)) (n ∙ ap (earlier found) o)
      ∙ (earlier_assoc found (first cause.DeclaredAgain (at_line (line x) again)) (first cause.DeclaredAgain rest)
      ∙ (ap (earlier found) (sym (ap (first cause.DeclaredAgain) here ∙ first_append cause.DeclaredAgain (at_line (line x) again) rest)) ∙ k))

-- ---- one space in two lists

names_onto : List Declared → List Text → List Text
names_onto [] before = before
names_onto (d ∷ ds) before = names_onto ds (d.0 ∷ before)

repeated_append : (before : List Text) (ks cs : List Declared) → repeated before (ks ++ cs) ≡ repeated before ks ++ repeated (names_onto ks before) cs
unfolding names_onto
repeated_append before [] cs = refl
repeated_append before (d ∷ ks) cs = ap (λ l. at_line d.1 (is_among d.0 before) ++ l) (repeated_append (d.0 ∷ before) ks cs) ∙ sym (append_assoc (at_line d.1 (is_among d.0 before)) (repeated (d.0 ∷ before) ks) (repeated (names_onto ks (d.0 ∷ before)) cs))

or_swap : (a b c : Bool) → (a || (b || c)) ≡ ((b || a) || c)
or_swap true true c = refl
or_swap true false c = refl
or_swap false true c = refl
or_swap false false c = refl

onto_among : (n : Text) (ds : List Declared) (before : List Text) → is_among n (names_onto ds before) ≡ (is_among n (map (λ (d : Declared). d.0) ds) || is_among n before)
unfolding names_onto
onto_among n [] before = refl
onto_among n (d ∷ ds) before = onto_among n ds (d.0 ∷ before) ∙ or_swap (is_among n (map (λ (d : Declared). d.0) ds)) (bytes_eq n d.0) (is_among n before)

repeated_same : (a b : List Text) → ((n : Text) → is_among n a ≡ is_among n b) → (ds : List Declared) → repeated a ds ≡ repeated b ds
repeated_same a b h [] = refl
repeated_same a b h (d ∷ ds) = λ i. at_line d.1 (h d.0 i) ++ repeated_same (d.0 ∷ a) (d.0 ∷ b) (λ n. ap (λ t. bytes_eq n d.0 || t) (h n)) ds i

pub two_lists : (ks cs : List Declared) → repeated [] (ks ++ cs) ≡ repeated [] ks ++ repeated (map (λ (d : Declared). d.0) ks) cs
two_lists ks cs = repeated_append [] ks cs ∙ ap (λ l. repeated [] ks ++ l) (repeated_same (names_onto ks []) (map (λ (d : Declared). d.0) ks) (λ n. onto_among n ks [] ∙ or_false (is_among n (map (λ (d : Declared). d.0) ks))) cs)

pub table_again : (t : TableDecl) → first cause.DeclaredAgain (repeated_in_table t) ≡ earlier (first cause.DeclaredAgain (repeated [] (map (λ k. (k.name, k.line)) t.keys))) (first cause.DeclaredAgain (repeated (map (λ k. k.name) t.keys) (map (λ c. (c.name, c.line)) t.columns)))
table_again t =
    ap (first cause.DeclaredAgain) (two_lists (map (λ (k : KeyDecl). (k.name, k.line)) t.keys) (map (λ (c : ColumnDecl). (c.name, c.line)) t.columns))
    ∙ (ap (λ (l : List Text). first cause.DeclaredAgain (repeated [] (map (λ (k : KeyDecl). (k.name, k.line)) t.keys) ++ repeated l (map (λ (c : ColumnDecl). (c.name, c.line)) t.columns))) (names_are (λ (k : KeyDecl). k.name) (λ (k : KeyDecl). k.line) t.keys)
    ∙ first_append cause.DeclaredAgain (repeated [] (map (λ (k : KeyDecl). (k.name, k.line)) t.keys)) (repeated (map (λ (k : KeyDecl). k.name) t.keys) (map (λ (c : ColumnDecl). (c.name, c.line)) t.columns)))
