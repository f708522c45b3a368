-- Tests of bytes.
use Rattle.std.proofs.Common.{◌≡◌, ◌<◌, ◌==◌, ◌&&◌, ◌||◌, ℕ, suc, Bool, true, false, List, [], ◌∷◌, ◌++◌, length, take, inl, inr, ◌⊎◌, ◌≤◌, Some, None, refl, sym, ap, subst, ◌∙◌, arith}
use Rattle.std.proofs.lemmas.Bool.{eqb-true, eq-eqb}
use Rattle.std.proofs.lemmas.List.{length-append}
use Rattle.std.proofs.lemmas.List.{take_all}
use Rattle.std.proofs.lemmas.Option.{slice_get-get_or, get_or_from_slice_get, slice_get_cases}
use Rattle.std.specs.List.{list_all}
use Rattle.std.proofs.Math.Seq.{get_or-append_seam, take-suc, take-length}
use Rattle.std.specs.Prelude.{slice_get, get_or}
use Rattle.db_text.specs.Text.{is_space, is_letter, is_name_byte, is_name, is_declared, begins_with, has_double}

pub both : (a b : Bool) → (a && b) ≡ true → (a ≡ true) × (b ≡ true)
both true true h = (refl, refl)
both true false h = cc
both false b h = cc

pub either : (P : Type 0) (a b : Bool) → (a ≡ true → P) → (b ≡ true → P) → (a || b) ≡ true → P
either P true b f g h = f refl
either P false b f g h = g h

pub same : (a b : ℕ) → (a == b) ≡ true → a ≡ b
same a b h = eqb-true a b h

pub itself : (b : ℕ) → (b == b) ≡ true
itself b = eq-eqb b b refl

-- what holds of each of the four space bytes holds of a space byte
pub by_space : (P : ℕ → Type 0) → P 0x09 → P 0x0A → P 0x0D → P 0x20 → (b : ℕ) → is_space b ≡ true → P b
by_space P t n r s b h =
    let at : (c : ℕ) → P c → (b == c) ≡ true → P b = λ c p e. subst P (sym (same b c e)) p in
    let one : (b == 0x09) ≡ true → P b = at 0x09 t in
    let two : (b == 0x0A) ≡ true → P b = at 0x0A n in
    let three : (b == 0x0D) ≡ true → P b = at 0x0D r in
    let four : (b == 0x20) ≡ true → P b = at 0x20 s in
    either (P b) _ _ (either (P b) _ _ (either (P b) _ _ one two) three) four h

pub space_no_name : (b : ℕ) → is_space b ≡ true → is_name_byte b ≡ false
space_no_name b h = by_space (λ c. is_name_byte c ≡ false) refl refl refl refl b h

pub space_no_letter : (b : ℕ) → is_space b ≡ true → is_letter b ≡ false
space_no_letter b h = by_space (λ c. is_letter c ≡ false) refl refl refl refl b h

pub length_push : (w : List ℕ) (b : ℕ) → length (w ++ b ∷ []) ≡ suc (length w)
length_push w b = length-append w (b ∷ []) ∙ omega arith

-- what stands behind a front
pub at_seam : (w v : List ℕ) (b : ℕ) → slice_get (w ++ b ∷ v) (length w) ≡ Some b
at_seam w v b =
    let l : length w < length (w ++ b ∷ v) = let e = length-append w (b ∷ v) in omega (arith, e) in
    slice_get-get_or (w ++ b ∷ v) (length w) b l ∙ ap Some (get_or-append_seam w b v b)

pub conj : {a b : Bool} → a ≡ true → b ≡ true → (a && b) ≡ true
conj {a} {b} h g = ap (λ x. x && b) h ∙ g

pub no : false ≡ true → ⊥
no h = cc

pub or_false : (a b : Bool) → (a || b) ≡ false → (a ≡ false) × (b ≡ false)
or_false false b h = (refl, h)
or_false true b h = cc

-- ---- fronts of lists

pub take_push : (xs : List ℕ) (i b : ℕ) → i < length xs → slice_get xs i ≡ Some b → take (suc i) xs ≡ take i xs ++ b ∷ []
take_push xs i b l h = take-suc xs i b l ∙ ap (λ x. take i xs ++ x ∷ []) (get_or_from_slice_get xs i b b h)

pub take_whole : (xs : List ℕ) → take (length xs) xs ≡ xs
take_whole xs = take-length xs

pub take_past : (xs : List ℕ) (i : ℕ) → slice_get xs i ≡ None → take i xs ≡ xs
take_past xs i h = by_case (slice_get_cases xs i).1
  where
    by_case : ((x : ℕ) × (i < length xs) × (slice_get xs i ≡ Some x) × (get_or xs i x ≡ x)) ⊎ ((length xs ≤ i) × (slice_get xs i ≡ None)) → take i xs ≡ xs
    by_case (inl p) = let e = p.2 in cc
    by_case (inr p) = take_all i xs p.0

-- ---- names, declarations and comments that grow

all_push : (test : ℕ → Bool) (w : List ℕ) (b : ℕ) → list_all test w ≡ true → test b ≡ true → list_all test (w ++ b ∷ []) ≡ true
all_push test [] b h g = conj g refl
all_push test (c ∷ w) b h g = let p = both (test c) (list_all test w) h in conj p.0 (all_push test w b p.1 g)

pub name_push : (w : List ℕ) (b : ℕ) → is_name w ≡ true → is_name_byte b ≡ true → is_name (w ++ b ∷ []) ≡ true
name_push [] b h g = cc
name_push (c ∷ w) b h g = let p = both (is_letter c) (list_all is_name_byte w) h in conj p.0 (all_push is_name_byte w b p.1 g)

pub declared_push : (w : List ℕ) (b : ℕ) → list_all is_declared w ≡ true → is_declared b ≡ true → list_all is_declared (w ++ b ∷ []) ≡ true
declared_push = all_push is_declared

begins_push : (w v : List ℕ) (b : ℕ) → (b == 0x2D) ≡ false → begins_with 0x2D ((w ++ b ∷ []) ++ v) ≡ begins_with 0x2D w
begins_push [] v b h = h
begins_push (c ∷ w) v b h = refl

-- another byte than a hyphen behind bytes without `--`: then a hyphen may come
pub quiet_push : (w : List ℕ) (b : ℕ) → has_double w ≡ false → (b == 0x2D) ≡ false → has_double ((w ++ b ∷ []) ++ 0x2D ∷ []) ≡ false
quiet_push [] b d h = ap (λ t. (t && true) || false) h
quiet_push (c ∷ w) b d h =
    let p = or_false (c == 0x2D && begins_with 0x2D w) (has_double w) d in
    ap (λ x. (c == 0x2D && x) || has_double ((w ++ b ∷ []) ++ 0x2D ∷ [])) (begins_push w (0x2D ∷ []) b h)
    ∙ ap (λ x. x || has_double ((w ++ b ∷ []) ++ 0x2D ∷ [])) p.0
    ∙ quiet_push w b p.1 h

and_false : (a : Bool) → ((a && false) || false) ≡ false
and_false true = refl
and_false false = refl

pub free_of_quiet : (w : List ℕ) → has_double (w ++ 0x2D ∷ []) ≡ false → has_double w ≡ false
free_of_quiet [] h = refl
free_of_quiet (c ∷ []) h = and_false (c == 0x2D)
free_of_quiet (c ∷ (d ∷ w)) h =
    let p = or_false (c == 0x2D && d == 0x2D) (has_double (d ∷ (w ++ 0x2D ∷ []))) h in
    ap (λ x. x || has_double (d ∷ w)) p.0 ∙ free_of_quiet (d ∷ w) p.1
