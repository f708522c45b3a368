-- What adding or raising the counts of a name does to the counts of each name.
use Rattle.std.proofs.Common.{◌≡◌, ℕ, ◌<◌, ◌≤◌, length, subst, Bool, true, false, List, [], ◌∷◌, ◌++◌, set, get_or, Option, Some, None, refl, sym, ap, ◌∙◌, ◌⊎◌, inl, inr, arith}
use Rattle.std.specs.Option.{is_some}
use Rattle.std.specs.List.{find, position}
use Rattle.std.proofs.lemmas.Slice.Eq.{bytes_eq-Decides}
use Rattle.std.proofs.lemmas.List.Folds.{find_past}
use Rattle.std.proofs.lemmas.List.Quantifiers.{position-Some}
use Rattle.std.proofs.lemmas.Bool.{false≢true}
use Rattle.npd_host.specs.Host.{Rose, NoneFalls}
use Rattle.npd_host.specs.Counts.{count_at}
use Rattle.npd_host.specs.FileHost.{is_of, faults_of, HasCounts}
use Rattle.npd_host.specs.declared.host.CallKind.{CallKind}
use Rattle.npd_host.specs.declared.counts.Counts.{Counts}
use Rattle.npd_host.specs.declared.files.faults.NameFaults.{NameFaults}
use Rattle.npd_host.proofs.Finds.{find-none, find-first, find-push, find-push_past, find-set_first}

-- the name that an entry is of
of_name : (x : NameFaults) (name : List ℕ) → is_of name x ≡ true → x.name ≡ name
of_name x name = (bytes_eq-Decides x.name name).0

-- the first entry of a name has other counts
module _ (xs : List NameFaults) (i : ℕ) (x : NameFaults) (name : List ℕ) (counts : Counts) (is : x ≡ get_or xs i x) (some : Some i ≡ position (is_of name) xs) where
  abbrev y : NameFaults
  y = record { name = x.name; counts = counts }

  within : i < length xs
  within = (position-Some (is_of name) xs i x (sym some)).0

  meant : is_of name x ≡ true
  meant = rw is ((position-Some (is_of name) xs i x (sym some)).1)

  before : find (is_of name) xs ≡ Some x
  before = find-first (is_of name) xs i x some within ∙ ap Some (sym is)

  after : find (is_of name) (set xs i y) ≡ Some y
  after = find-set_first (is_of name) xs i y some within meant

  found : (other : List ℕ) → (find (is_of other) (set xs i y) ≡ find (is_of other) xs) ⊎ ((find (is_of other) xs ≡ Some x) × (find (is_of other) (set xs i y) ≡ Some y))
  found other = by_test (is_of other x) refl
    where
      by_test : (test : Bool) → is_of other x ≡ test → (find (is_of other) (set xs i y) ≡ find (is_of other) xs) ⊎ ((find (is_of other) xs ≡ Some x) × (find (is_of other) (set xs i y) ≡ Some y))
      by_test true e =
          let same : name ≡ other = sym (of_name x name meant) ∙ of_name x other e in
          let Found : List ℕ → Type 0 = λ n. (find (is_of n) xs ≡ Some x) × (find (is_of n) (set xs i y) ≡ Some y) in
          inr (subst Found same (before, after))
      by_test false e = inl (find_past (is_of other) xs i y x (ap (is_of other) (sym is) ∙ e) e)

  pub rose-set : (kind : CallKind) → Rose (count_at kind x.counts) (count_at kind counts) → Rose (faults_of xs kind name) (faults_of (set xs i y) kind name)
  rose-set kind rose = rw (before, after) rose

  pub later-set : ((kind : CallKind) → count_at kind x.counts ≤ count_at kind counts) → NoneFalls (faults_of xs) (faults_of (set xs i y))
  later-set grew kind other = elim (found other) [
    | inl same ↦ rw same (omega arith)
    | inr both ↦ rw (both.0, both.1) (grew kind)
  ]

  pub kept-set : (other : List ℕ) → HasCounts xs other → HasCounts (set xs i y) other
  kept-set other has = elim (found other) [
    | inl same ↦ rw same has
    | inr both ↦ rw both.1 refl
  ]

first_some : {A : Type 0} (o : Option A) → is_some o ≡ true → (x : A) × (Some x ≡ o)
first_some None e = absurd (false≢true e)
first_some (Some x) e = (x, refl)

first_none : {A : Type 0} (o : Option A) → is_some o ≡ false → None ≡ o
first_none None e = refl
first_none (Some x) e = absurd (false≢true (sym e))

-- a name that has a place has counts
pub has_counts : (xs : List NameFaults) (name : List ℕ) → is_some (position (is_of name) xs) ≡ true → HasCounts xs name
has_counts [] name some = absurd (false≢true some)
has_counts (x ∷ xs) name some =
    let first = first_some (position (is_of name) (x ∷ xs)) some in
    let at = position-Some (is_of name) (x ∷ xs) first.0 x (sym first.1) in
    rw (find-first (is_of name) (x ∷ xs) first.0 x first.1 at.0) refl

-- a name without a place has none
pub no_counts : (xs : List NameFaults) (name : List ℕ) → None ≡ position (is_of name) xs → HasCounts xs name → ⊥
no_counts xs name none has = false≢true (ap is_some (sym (find-none (is_of name) xs none)) ∙ has)

-- an entry more for a name that had none
module _ (xs : List NameFaults) (name : List ℕ) (counts : Counts) (past : is_some (position (is_of name) xs) ≡ false) where
  none : None ≡ position (is_of name) xs
  none = first_none (position (is_of name) xs) past

  abbrev added : NameFaults
  added = record { name = name; counts = counts }

  pub added-push : HasCounts (xs ++ added ∷ []) name
  added-push = rw (find-push (is_of name) xs added none ((bytes_eq-Decides name name).1 refl)) refl

  pub kept-push : (other : List ℕ) → HasCounts xs other → HasCounts (xs ++ added ∷ []) other
  kept-push other has = by_test (is_of other added) refl
    where
      by_test : (test : Bool) → is_of other added ≡ test → HasCounts (xs ++ added ∷ []) other
      by_test true e = absurd (no_counts xs name none (rw (of_name added other e) has))
      by_test false e = rw (find-push_past (is_of other) xs added e) has

  pub same-push : ((kind : CallKind) → count_at kind counts ≡ 0) → (kind : CallKind) (other : List ℕ) → faults_of (xs ++ added ∷ []) kind other ≡ faults_of xs kind other
  same-push zero kind other = by_test (is_of other added) refl
    where
      by_test : (test : Bool) → is_of other added ≡ test → faults_of (xs ++ added ∷ []) kind other ≡ faults_of xs kind other
      by_test true e =
          let same = of_name added other e in
          let Same : List ℕ → Type 0 = λ n. faults_of (xs ++ added ∷ []) kind n ≡ faults_of xs kind n in
          subst Same same (rw (find-push (is_of name) xs added none ((bytes_eq-Decides name name).1 refl), find-none (is_of name) xs none) (zero kind))
      by_test false e = rw (find-push_past (is_of other) xs added e)
