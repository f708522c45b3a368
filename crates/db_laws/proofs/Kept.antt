-- Putting an entry keeps the entries of a part apart, and their number within the declared one.
use Rattle.std.specs.Prelude.{◌≡◌, ℕ, zero, suc, min, ◌⊎◌, ◌≤◌, Bool, true, false, ◌||◌, if◌then◌else◌, nat_lt, ◌==◌, List, [], ◌∷◌, ◌++◌, length, slice_get, fold, Option, Some, None}
use Rattle.std.proofs.Common.{refl, sym, ap, subst, ◌∙◌, arith, Decides, inl, inr}
use Rattle.std.proofs.lemmas.Bool.{cases_lt}
use Rattle.std.specs.List.{list_any}
use Rattle.std.specs.Option.{option_eq}
use Rattle.std.specs.Cmp.Lexicographic.{pointwise_decides, bytes_decides}
use Rattle.std.proofs.lemmas.Bool.Decides.{Decides-and, same_from_decides, Decides-eqb, Decides-ltb}
use Rattle.db_model.specs.declared.database.TableDecl.{TableDecl}
use Rattle.db_model.specs.declared.entry.Entry.{Entry}
use Rattle.db_laws.specs.Laws.{TableKeeps}
use Rattle.db_model.specs.Table.{Parts, KeyList, empty, same_keys, same_place, replace, sooner, soonest, evict, put_in_full, put_in, put_by, put, entry_at, add, renewed_by, answered, matching_entry, look}
use Rattle.db_model.specs.declared.entry.NewEntry.{NewEntry}
use Rattle.db_model.specs.declared.entry.Validity.{Validity}
use Rattle.db_model.specs.declared.entry.Validity.TheVariants.{Forever, MaxTime, UpdateOnHit, AddOnHit}
use Rattle.db_model.specs.Kept.{IsApart, Kept, made_by_put}

-- ---- the test

pub keys_decide : (a b : KeyList) → Decides (same_keys a b) (a ≡ b)
keys_decide = pointwise_decides bytes_decides

masks_decide : (a b : Option KeyList) → Decides (option_eq same_keys a b) (a ≡ b)
masks_decide None None = (λ e. refl, λ e. refl)
masks_decide None (Some b) = (λ e. (cc), λ e. (cc))
masks_decide (Some a) None = (λ e. (cc), λ e. (cc))
masks_decide (Some a) (Some b) = (λ e. ap Some ((keys_decide a b).0 e), λ e. (keys_decide a b).1 (cc))

pub place_decides : (e d : Entry) → Decides (same_place e d) ((e.keys ≡ d.keys) × (e.masks ≡ d.masks))
place_decides e d = Decides-and (same_keys e.keys d.keys) (option_eq same_keys e.masks d.masks) (keys_decide e.keys d.keys) (masks_decide e.masks d.masks)

-- a third entry compares alike with two of the same place
same_at : (x e d : Entry) → same_place e d ≡ true → same_place x e ≡ same_place x d
same_at x e d h =
    let k = (place_decides e d).0 h in
    same_from_decides (same_place x e) (same_place x d) (place_decides x e)
    ((λ t. let m = (place_decides x d).0 t in (m.0 ∙ sym k.0, m.1 ∙ sym k.1)), (λ m. (place_decides x d).1 (m.0 ∙ k.0, m.1 ∙ k.1)))

turned_place : (e d : Entry) → same_place e d ≡ same_place d e
turned_place e d =
    same_from_decides (same_place e d) (same_place d e) (place_decides e d)
    ((λ t. let m = (place_decides d e).0 t in (sym m.0, sym m.1)), (λ m. (place_decides d e).1 (sym m.0, sym m.1)))

-- ---- apart, one after another

abbrev NoneLike : Entry → List Entry → Type 0
NoneLike e es = list_any (same_place e) es ≡ false

abbrev Apart : List Entry → Type 0
Apart [] = Unit {0}
Apart (e ∷ es) = NoneLike e es × Apart es

pub or_first : (a b : Bool) → (a || b) ≡ false → a ≡ false
or_first true b h = h
or_first false b h = refl

pub or_second : (a b : Bool) → (a || b) ≡ false → b ≡ false
or_second true b h = (cc)
or_second false b h = h

pub or_none : (a b : Bool) → a ≡ false → b ≡ false → (a || b) ≡ false
or_none true b h k = h
or_none false b h k = k

none_push : (x e : Entry) (es : List Entry) → NoneLike x es → same_place x e ≡ false → NoneLike x (es ++ e ∷ [])
none_push x e [] h k = or_none (same_place x e) false k refl
none_push x e (d ∷ es) h k = or_none (same_place x d) (list_any (same_place x) (es ++ e ∷ [])) (or_first (same_place x d) (list_any (same_place x) es) h) (none_push x e es (or_second (same_place x d) (list_any (same_place x) es) h) k)

apart_push : (e : Entry) (es : List Entry) → Apart es → NoneLike e es → Apart (es ++ e ∷ [])
apart_push e [] h k = (refl, tt)
apart_push e (d ∷ es) h k =
    (none_push d e es h.0 (turned_place d e ∙ or_first (same_place e d) (list_any (same_place e) es) k), apart_push e es h.1 (or_second (same_place e d) (list_any (same_place e) es) k))

abbrev has_deadline : ℕ → Entry → Bool
has_deadline t e = option_eq ◌==◌ e.deadline (Some t)

none_evict : (x : Entry) (t : ℕ) (es : List Entry) → NoneLike x es → NoneLike x (evict t es)
none_evict x t [] h = refl
none_evict x t (e ∷ es) h = pick (has_deadline t e) (none_evict x t es (or_second (same_place x e) (list_any (same_place x) es) h))
  where
    pick : (b : Bool) → NoneLike x (evict t es) → NoneLike x (if b then es else e ∷ evict t es)
    pick true ih = or_second (same_place x e) (list_any (same_place x) es) h
    pick false ih = or_none (same_place x e) (list_any (same_place x) (evict t es)) (or_first (same_place x e) (list_any (same_place x) es) h) ih

apart_evict : (t : ℕ) (es : List Entry) → Apart es → Apart (evict t es)
apart_evict t [] h = tt
apart_evict t (e ∷ es) h = pick (has_deadline t e) (apart_evict t es h.1)
  where
    pick : (b : Bool) → Apart (evict t es) → Apart (if b then es else e ∷ evict t es)
    pick true ih = h.1
    pick false ih = (none_evict e t es h.0, ih)

-- the entry that takes the place of another compares as it did
none_replace : (x e : Entry) (es : List Entry) → list_any (same_place x) (replace e es) ≡ list_any (same_place x) es
none_replace x e [] = refl
none_replace x e (d ∷ es) = pick (same_place e d) refl (none_replace x e es)
  where
    pick : (b : Bool) → same_place e d ≡ b → list_any (same_place x) (replace e es) ≡ list_any (same_place x) es → list_any (same_place x) (if b then e ∷ es else d ∷ replace e es) ≡ (same_place x d || list_any (same_place x) es)
    pick true h ih = ap (λ c. c || list_any (same_place x) es) (same_at x e d h)
    pick false h ih = ap (λ c. same_place x d || c) ih

like : (e d : Entry) → same_place e d ≡ true → (f : Entry) → same_place e f ≡ same_place d f
like e d k f = turned_place e f ∙ same_at f e d k ∙ turned_place f d

all_like : (e d : Entry) → same_place e d ≡ true → (fs : List Entry) → list_any (same_place e) fs ≡ list_any (same_place d) fs
all_like e d k [] = refl
all_like e d k (f ∷ fs) = λ i. like e d k f i || all_like e d k fs i

apart_replace : (e : Entry) (es : List Entry) → Apart es → Apart (replace e es)
apart_replace e [] h = tt
apart_replace e (d ∷ es) h = pick (same_place e d) refl (apart_replace e es h.1)
  where
    pick : (b : Bool) → same_place e d ≡ b → Apart (replace e es) → Apart (if b then e ∷ es else d ∷ replace e es)
    pick true k ih = (all_like e d k es ∙ h.0, h.1)
    pick false k ih = (none_replace d e es ∙ h.0, ih)

-- ---- how many

length_replace : (e : Entry) (es : List Entry) → length (replace e es) ≡ length es
length_replace e [] = refl
length_replace e (d ∷ es) = pick (same_place e d) (length_replace e es)
  where
    pick : (b : Bool) → length (replace e es) ≡ length es → length (if b then e ∷ es else d ∷ replace e es) ≡ suc (length es)
    pick true ih = refl
    pick false ih = ap suc ih

min_is : (s r : ℕ) → (min s r ≡ s) ⊎ (min s r ≡ r)
min_is s r = elim (cases_lt s r) [ inl h ↦ inl (omega arith) | inr h ↦ inr (omega arith) ]

equal_so : (s t : ℕ) → s ≡ t → (s == t) ≡ true
equal_so s t h = (Decides-eqb s t).1 h

pub or_left : (a b : Bool) → a ≡ true → (a || b) ≡ true
or_left true b k = refl
or_left false b k = (cc)

pub or_right : (a b : Bool) → b ≡ true → (a || b) ≡ true
or_right true b k = refl
or_right false b k = k

-- the least deadline of a list is that of an entry in it
soonest_there : (t : ℕ) (es : List Entry) → soonest es ≡ Some t → list_any (has_deadline t) es ≡ true
soonest_there t [] h = (cc)
soonest_there t (e ∷ es) h = by e.deadline (soonest es) refl h (soonest_there t es)
  where
    by : (a b : Option ℕ) → soonest es ≡ b → sooner a b ≡ Some t → (soonest es ≡ Some t → list_any (has_deadline t) es ≡ true) → (option_eq ◌==◌ a (Some t) || list_any (has_deadline t) es) ≡ true
    by None b g k ih = ih (g ∙ k)
    by (Some s) None g k ih = or_left (s == t) (list_any (has_deadline t) es) (equal_so s t (cc))
    by (Some s) (Some r) g k ih =
        elim (min_is s r) [
          | inl m ↦ or_left (s == t) (list_any (has_deadline t) es) (equal_so s t (cc))
          | inr m ↦ or_right (s == t) (list_any (has_deadline t) es) (ih (cc))
        ]

length_evict : (t : ℕ) (es : List Entry) → list_any (has_deadline t) es ≡ true → suc (length (evict t es)) ≡ length es
length_evict t [] h = (cc)
length_evict t (e ∷ es) h = pick (has_deadline t e) refl (length_evict t es)
  where
    pick : (b : Bool) → has_deadline t e ≡ b → (list_any (has_deadline t) es ≡ true → suc (length (evict t es)) ≡ length es) → suc (length (if b then es else e ∷ evict t es)) ≡ suc (length es)
    pick true k ih = refl
    pick false k ih = ap suc (ih (subst (λ c. (c || list_any (has_deadline t) es) ≡ true) k h))

-- ---- putting into a part

push_length : (es : List Entry) (e : Entry) → length (es ++ e ∷ []) ≡ suc (length es)
push_length [] e = refl
push_length (d ∷ es) e = ap suc (push_length es e)

record Part (room : ℕ) (es : List Entry) : Type 0 where
  apart : Apart es
  within : length es ≤ room

-- a part stays within its declared length, whatever stands in it
pub put_in_within : (room : ℕ) (e : Entry) (es : List Entry) → length es ≤ room → length (put_in room e es) ≤ room
put_in_within room e es h = by (list_any (same_place e) es)
  where
    full : (o : Option ℕ) → soonest es ≡ o → length (put_in_full o e es) ≤ room
    full None k = h
    full (Some t) k = omega (arith, push_length (evict t es) e, length_evict t es (soonest_there t es k), h)

    by_room : (b : Bool) → nat_lt (length es) room ≡ b → length (if b then es ++ e ∷ [] else put_in_full (soonest es) e es) ≤ room
    by_room true k = omega (arith, push_length es e, (Decides-ltb (length es) room).0 k)
    by_room false k = full (soonest es) refl

    by : (b : Bool) → length (if b then replace e es else (if nat_lt (length es) room then es ++ e ∷ [] else put_in_full (soonest es) e es)) ≤ room
    by true = omega (arith, length_replace e es, h)
    by false = by_room (nat_lt (length es) room) refl

put_in_keeps : (room : ℕ) (e : Entry) (es : List Entry) → Part room es → Part room (put_in room e es)
put_in_keeps room e es h = by (list_any (same_place e) es) refl
  where
    full : (o : Option ℕ) → soonest es ≡ o → NoneLike e es → Part room (put_in_full o e es)
    full None k g = h
    full (Some t) k g = record {
      apart = apart_push e (evict t es) (apart_evict t es h.apart) (none_evict e t es g);
      within = omega (arith, push_length (evict t es) e, length_evict t es (soonest_there t es k), h.within);
    }

    by_room : (b : Bool) → nat_lt (length es) room ≡ b → NoneLike e es → Part room (if b then es ++ e ∷ [] else put_in_full (soonest es) e es)
    by_room true k g = record { apart = apart_push e es h.apart g; within = omega (arith, push_length es e, (Decides-ltb (length es) room).0 k) }
    by_room false k g = full (soonest es) refl g

    by : (b : Bool) → list_any (same_place e) es ≡ b → Part room (if b then replace e es else (if nat_lt (length es) room then es ++ e ∷ [] else put_in_full (soonest es) e es))
    by true k = record { apart = apart_replace e es h.apart; within = omega (arith, length_replace e es, h.within) }
    by false k = by_room (nat_lt (length es) room) refl k

-- ---- by places

none_at : (x : Entry) (es : List Entry) (j : ℕ) (e : Entry) → NoneLike x es → slice_get es j ≡ Some e → same_place x e ≡ false
none_at x [] j e h k = (cc)
none_at x (d ∷ es) zero e h k = let m : d ≡ e = cc in subst (λ y. same_place x y ≡ false) m (or_first (same_place x d) (list_any (same_place x) es) h)
none_at x (d ∷ es) (suc j) e h k = none_at x es j e (or_second (same_place x d) (list_any (same_place x) es) h) k

apart_places : (es : List Entry) → Apart es → IsApart es
apart_places [] h i j d e p q k m = (cc)
apart_places (x ∷ es) h zero zero d e p q k m = refl
apart_places (x ∷ es) h zero (suc j) d e p q k m =
    let f : same_place x e ≡ false = none_at x es j e h.0 q in
    let t : same_place x e ≡ true = (place_decides x e).1 (let n : x ≡ d = cc in (ap (λ (y : Entry). y.keys) n ∙ k, ap (λ (y : Entry). y.masks) n ∙ m)) in
    (cc)
apart_places (x ∷ es) h (suc i) zero d e p q k m =
    let f : same_place x d ≡ false = none_at x es i d h.0 p in
    let t : same_place x d ≡ true = (place_decides x d).1 (let n : x ≡ e = cc in (ap (λ (y : Entry). y.keys) n ∙ sym k, ap (λ (y : Entry). y.masks) n ∙ sym m)) in
    (cc)
apart_places (x ∷ es) h (suc i) (suc j) d e p q k m = ap suc (apart_places es h.1 i j d e p q k m)

-- ---- tables

record Both (d : TableDecl) (t : Parts) : Type 0 where
  exact : Part d.exact_entries t.exact
  masked : Part d.mask_entries t.masked

put_by_keeps : (ms : Option KeyList) (d : TableDecl) (t : Parts) (e : Entry) → Both d t → Both d (put_by ms d t e)
put_by_keeps None d t e h = record { exact = put_in_keeps d.exact_entries e t.exact h.exact; masked = h.masked }
put_by_keeps (Some ms) d t e h = record { exact = h.exact; masked = put_in_keeps d.mask_entries e t.masked h.masked }

put_both : (d : TableDecl) (t : Parts) (e : Entry) → Both d t → Both d (put d t e)
unfolding put
put_both d t e h = put_by_keeps e.masks d t e h

all_both : (d : TableDecl) (t : Parts) (es : List Entry) → Both d t → Both d (fold (put d) t es)
all_both d t [] h = h
all_both d t (e ∷ es) h = all_both d (put d t e) es (put_both d t e h)

pub put_keeps : (d : TableDecl) (es : List Entry) → Kept d (made_by_put d es)
put_keeps d es =
    let h = all_both d empty es (record { exact = record { apart = tt; within = omega arith }; masked = record { apart = tt; within = omega arith } }) in
    record {
      exact_apart = apart_places (made_by_put d es).exact h.exact.apart;
      masked_apart = apart_places (made_by_put d es).masked h.masked.apart;
      exact_room = h.exact.within;
      masked_room = h.masked.within;
    }

-- ---- adding and looking

-- a test that holds somewhere holds at a place
any_at : (x : Entry) (es : List Entry) → list_any (same_place x) es ≡ true → (j : ℕ) × (e : Entry) × (slice_get es j ≡ Some e) × (same_place x e ≡ true)
any_at x [] h = (cc)
any_at x (d ∷ es) h = by (same_place x d) refl h (any_at x es)
  where
    by : (b : Bool) → same_place x d ≡ b → (b || list_any (same_place x) es) ≡ true → (list_any (same_place x) es ≡ true → (j : ℕ) × (e : Entry) × (slice_get es j ≡ Some e) × (same_place x e ≡ true)) → (j : ℕ) × (e : Entry) × (slice_get (d ∷ es) j ≡ Some e) × (same_place x e ≡ true)
    by true k g ih = (zero, d, refl, k)
    by false k g ih = let r = ih g in (suc r.0, r.1, r.2, r.3)

not_there : (b : Bool) → (b ≡ true → ⊥) → b ≡ false
not_there true h = absurd (h refl)
not_there false h = refl

places_apart : (es : List Entry) → IsApart es → Apart es
places_apart [] h = tt
places_apart (x ∷ es) h = (
  not_there (list_any (same_place x) es) (λ g.
      let r = any_at x es g in
      let m = (place_decides x r.1).0 r.3 in
      let e : zero ≡ suc r.0 = h zero (suc r.0) x r.1 refl r.2 m.0 m.1 in
      (cc)),
  places_apart es (λ i j d e p q k m. suc_same i j (h (suc i) (suc j) d e p q k m)),
)
  where
    suc_same : (i j : ℕ) → suc i ≡ suc j → i ≡ j
    suc_same i j e = omega arith

both_of : (d : TableDecl) (t : Parts) → Kept d t → Both d t
both_of d t h = record {
  exact = record { apart = places_apart t.exact h.exact_apart; within = h.exact_room };
  masked = record { apart = places_apart t.masked h.masked_apart; within = h.masked_room };
}

kept_of : (d : TableDecl) (t : Parts) → Both d t → Kept d t
kept_of d t h = record {
  exact_apart = apart_places t.exact h.exact.apart;
  masked_apart = apart_places t.masked h.masked.apart;
  exact_room = h.exact.within;
  masked_room = h.masked.within;
}

pub put_kept : (d : TableDecl) (t : Parts) (e : Entry) → Kept d t → Kept d (put d t e)
put_kept d t e h = kept_of d (put d t e) (put_both d t e (both_of d t h))

pub add_kept : (d : TableDecl) (t : Parts) (n : NewEntry) (now : ℕ) → Kept d t → Kept d (add d t n now)
unfolding add
add_kept d t n now h = put_kept d t (entry_at n now) h

renewed_kept : (v : Validity) (d : TableDecl) (t : Parts) (keys : KeyList) (now : ℕ) (e : Entry) → Kept d t → Kept d (renewed_by v d t keys now e)
renewed_kept Forever d t keys now e h = h
renewed_kept MaxTime d t keys now e h = h
renewed_kept UpdateOnHit d t keys now e h = put_kept d t _ h
renewed_kept AddOnHit d t keys now e h = put_kept d t _ h

pub look_kept : (d : TableDecl) (t : Parts) (keys : KeyList) (renew : Bool) (now : ℕ) → Kept d t → Kept d (look d t keys renew now).1
unfolding look
look_kept d t keys renew now h = by (matching_entry t keys now) renew
  where
    by : (o : Option Entry) (r : Bool) → Kept d (answered d t keys r now o).1
    by None r = h
    by (Some e) true = renewed_kept e.validity d t keys now e h
    by (Some e) false = h

pub table_keeps : TableKeeps
table_keeps = record { added = add_kept; looked = look_kept }
