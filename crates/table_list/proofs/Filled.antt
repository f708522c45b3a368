-- An entry that fits, at the end of a part in which none has its keys and masks.
use Rattle.std.specs.Prelude.{◌≡◌, ℕ, zero, suc, ◌+◌, ◌<◌, ◌≤◌, ◌⊎◌, Bool, true, false, ◌&&◌, ◌||◌, nat_le, List, [], ◌∷◌, ◌++◌, length, slice_get, Option, Some, None}
use Rattle.std.proofs.Common.{refl, sym, ap, subst, ◌∙◌, arith, inl, inr}
use Rattle.std.specs.List.{list_any, list_all}
use Rattle.std.proofs.lemmas.Bool.{le-leb}
use Rattle.std.proofs.lemmas.List.{length_push}
use Rattle.std.proofs.lemmas.List.Folds.{list_all-append}
use Rattle.db_model.specs.declared.database.TableDecl.{TableDecl}
use Rattle.db_model.specs.declared.entry.Entry.{Entry}
use Rattle.db_model.specs.Fitting.{exact_fits, masked_fits, table_fits}
use Rattle.db_model.specs.Kept.{IsApart, Kept}
use Rattle.db_model.specs.Table.{Parts, same_place}
use Rattle.table_list.specs.Lists.{part, limit, part_fits, appended}
use Rattle.table_list.proofs.Parts.{place_decides}

two : (a b : Bool) → (a && b) ≡ true → (a ≡ true) × (b ≡ true)
two true b h = (refl, h)
two false b h = (cc)

both : (a b : Bool) → a ≡ true → b ≡ true → (a && b) ≡ true
both true b h k = k
both false b h k = h

-- ---- fits

all_pushed : (p : Entry → Bool) (es : List Entry) (e : Entry) → list_all p es ≡ true → p e ≡ true → list_all p (es ++ e ∷ []) ≡ true
all_pushed p es e h k = list_all-append p es (e ∷ []) ∙ both (list_all p es) (p e && true) h (both (p e) true k refl)

room_pushed : (es : List Entry) (e : Entry) (most : ℕ) → length es < most → nat_le (length (es ++ e ∷ [])) most ≡ true
room_pushed es e most h = le-leb (length (es ++ e ∷ [])) most (omega (arith, length_push es e, h))

pub filled_fits : (masked : Bool) (d : TableDecl) (t : Parts) (e : Entry) → table_fits d t ≡ true → length (part masked t) < limit masked d → part_fits masked d e ≡ true → table_fits d (appended masked e t) ≡ true
unfolding table_fits
filled_fits false d t e h k f =
    let a = two (nat_le (length t.exact) d.exact_entries && list_all (exact_fits d) t.exact) (nat_le (length t.masked) d.mask_entries && list_all (masked_fits d) t.masked) h in
    let b = two (nat_le (length t.exact) d.exact_entries) (list_all (exact_fits d) t.exact) a.0 in
    both (nat_le (length (t.exact ++ e ∷ [])) d.exact_entries && list_all (exact_fits d) (t.exact ++ e ∷ [])) (nat_le (length t.masked) d.mask_entries && list_all (masked_fits d) t.masked)
    (both (nat_le (length (t.exact ++ e ∷ [])) d.exact_entries) (list_all (exact_fits d) (t.exact ++ e ∷ [])) (room_pushed t.exact e d.exact_entries k) (all_pushed (exact_fits d) t.exact e b.1 f)) a.1
filled_fits true d t e h k f =
    let a = two (nat_le (length t.exact) d.exact_entries && list_all (exact_fits d) t.exact) (nat_le (length t.masked) d.mask_entries && list_all (masked_fits d) t.masked) h in
    let b = two (nat_le (length t.masked) d.mask_entries) (list_all (masked_fits d) t.masked) a.1 in
    both (nat_le (length t.exact) d.exact_entries && list_all (exact_fits d) t.exact) (nat_le (length (t.masked ++ e ∷ [])) d.mask_entries && list_all (masked_fits d) (t.masked ++ e ∷ [])) a.0
    (both (nat_le (length (t.masked ++ e ∷ [])) d.mask_entries) (list_all (masked_fits d) (t.masked ++ e ∷ [])) (room_pushed t.masked e d.mask_entries k) (all_pushed (masked_fits d) t.masked e b.1 f))

-- ---- apart

pushed_at : (es : List Entry) (e x : Entry) (i : ℕ) → slice_get (es ++ e ∷ []) i ≡ Some x → (slice_get es i ≡ Some x) ⊎ ((i ≡ length es) × (e ≡ x))
pushed_at [] e x zero p = inr (refl, (cc))
pushed_at [] e x (suc i) p = (cc)
pushed_at (y ∷ es) e x zero p = inl p
pushed_at (y ∷ es) e x (suc i) p = elim (pushed_at es e x i p) [ inl h ↦ inl h | inr h ↦ inr (ap suc h.0, h.1) ]

there : (e x : Entry) (es : List Entry) (i : ℕ) → slice_get es i ≡ Some x → e.keys ≡ x.keys → e.masks ≡ x.masks → list_any (same_place e) es ≡ true
there e x [] i p k m = (cc)
there e x (y ∷ es) zero p k m =
    let s : same_place e y ≡ true = (place_decides e y).1 (cc, cc) in
    ap (λ b. b || list_any (same_place e) es) s
there e x (y ∷ es) (suc i) p k m = by (same_place e y) (there e x es i p k m)
  where
    by : (b : Bool) → list_any (same_place e) es ≡ true → (b || list_any (same_place e) es) ≡ true
    by true h = refl
    by false h = h

never : (b : Bool) → b ≡ true → b ≡ false → ⊥
never true h k = (cc)
never false h k = (cc)

apart_pushed : (es : List Entry) (e : Entry) → IsApart es → list_any (same_place e) es ≡ false → IsApart (es ++ e ∷ [])
apart_pushed es e h n i j x y p q k m =
    elim (pushed_at es e x i p) [
      | inl a ↦ elim (pushed_at es e y j q) [
        | inl b ↦ h i j x y a b k m
        | inr b ↦ absurd (never (list_any (same_place e) es) (there e x es i a (ap (λ (z : Entry). z.keys) b.1 ∙ sym k) (ap (λ (z : Entry). z.masks) b.1 ∙ sym m)) n)
      ]
      | inr a ↦ elim (pushed_at es e y j q) [
        | inl b ↦ absurd (never (list_any (same_place e) es) (there e y es j b (ap (λ (z : Entry). z.keys) a.1 ∙ k) (ap (λ (z : Entry). z.masks) a.1 ∙ m)) n)
        | inr b ↦ a.0 ∙ sym b.0
      ]
    ]

pub filled_kept : (masked : Bool) (d : TableDecl) (t : Parts) (e : Entry) → Kept d t → length (part masked t) < limit masked d → list_any (same_place e) (part masked t) ≡ false → Kept d (appended masked e t)
filled_kept false d t e h k n = record { exact_apart = apart_pushed t.exact e h.exact_apart n; masked_apart = h.masked_apart; exact_room = omega (arith, length_push t.exact e, k); masked_room = h.masked_room }
filled_kept true d t e h k n = record { exact_apart = h.exact_apart; masked_apart = apart_pushed t.masked e h.masked_apart n; exact_room = h.exact_room; masked_room = omega (arith, length_push t.masked e, k) }
