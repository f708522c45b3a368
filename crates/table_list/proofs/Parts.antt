-- Putting into a part whose entries are apart.
use Rattle.std.specs.Prelude.{◌≡◌, ℕ, zero, suc, ◌+◌, ◌<◌, ◌≤◌, Bool, true, false, ◌&&◌, ◌||◌, if◌then◌else◌, nat_lt, ◌==◌, List, [], ◌∷◌, ◌++◌, length, slice_get, slice_set, find, is_some, Option, Some, None}
use Rattle.std.proofs.Common.{refl, sym, ap, subst, ◌∙◌, arith, Decides, get_or, drop, take}
use Rattle.std.specs.List.{list_any}
use Rattle.std.specs.Option.{option_eq}
use Rattle.std.specs.Cmp.Lexicographic.{pointwise_decides, bytes_decides}
use Rattle.std.proofs.lemmas.Bool.Decides.{Decides-and}
use Rattle.db_model.specs.declared.entry.Entry.{Entry}
use Rattle.db_model.specs.Kept.{IsApart}
use Rattle.std.proofs.lemmas.Option.{none-some, slice_get-get_or}
use Rattle.db_model.specs.declared.database.TableDecl.{TableDecl}
use Rattle.db_model.specs.Table.{Parts, KeyList, same_keys, same_place, replace, put, put_by, put_in, put_in_full, soonest, add, entry_at}
use Rattle.db_model.specs.declared.entry.NewEntry.{NewEntry}

keys_decide : (a b : KeyList) → Decides (same_keys a b) (a ≡ b)
keys_decide = pointwise_decides bytes_decides

masks_decide : (a b : Option KeyList) → Decides (option_eq same_keys a b) (a ≡ b)
masks_decide None None = (λ e. refl, λ e. refl)
masks_decide None (Some b) = (λ e. (cc), λ e. (cc))
masks_decide (Some a) None = (λ e. (cc), λ e. (cc))
masks_decide (Some a) (Some b) = (λ e. ap Some ((keys_decide a b).0 e), λ e. (keys_decide a b).1 (cc))

-- an entry is at the place of another exactly where keys and masks are equal
pub place_decides : (e d : Entry) → Decides (same_place e d) ((e.keys ≡ d.keys) × (e.masks ≡ d.masks))
place_decides e d = Decides-and (same_keys e.keys d.keys) (option_eq same_keys e.masks d.masks) (keys_decide e.keys d.keys) (masks_decide e.masks d.masks)

apart_rest : (d : Entry) (es : List Entry) → IsApart (d ∷ es) → IsApart es
apart_rest d es h i j x y p q k m = suc_same i j (h (suc i) (suc j) x y p q k m)
  where
    suc_same : (a b : ℕ) → suc a ≡ suc b → a ≡ b
    suc_same a b e = omega (arith, e)

-- the entry with the keys and masks of the one at a number replaces that one
pub replaces : (e d : Entry) (es : List Entry) (at : ℕ) → IsApart es → slice_get es at ≡ Some d → e.keys ≡ d.keys → e.masks ≡ d.masks → (list_any (same_place e) es ≡ true) × (replace e es ≡ slice_set es at e)
replaces e d [] at h p k m = (cc)
replaces e d (x ∷ es) zero h p k m =
    let s : same_place e x ≡ true = (place_decides e x).1 (cc, cc) in
    (ap (λ b. b || list_any (same_place e) es) s, ap (λ (b : Bool). if b then e ∷ es else x ∷ replace e es) s)
replaces e d (x ∷ es) (suc at) h p k m = by (same_place e x) refl (replaces e d es at (apart_rest x es h) p k m)
  where
    by : (b : Bool) → same_place e x ≡ b → (list_any (same_place e) es ≡ true) × (replace e es ≡ slice_set es at e) → ((b || list_any (same_place e) es) ≡ true) × ((if b then e ∷ es else x ∷ replace e es) ≡ x ∷ slice_set es at e)
    by true s r =
        let w = (place_decides e x).0 s in
        let z : 0 ≡ suc at = h 0 (suc at) x d refl p (sym w.0 ∙ k) (sym w.1 ∙ m) in
        absurd (omega (arith, z))
    by false s r = (r.0, ap (λ l. x ∷ l) r.1)

-- so it is put there
pub put_at : (room : ℕ) (e d : Entry) (es : List Entry) (at : ℕ) → IsApart es → slice_get es at ≡ Some d → e.keys ≡ d.keys → e.masks ≡ d.masks → put_in room e es ≡ slice_set es at e
put_at room e d es at h p k m =
    let r = replaces e d es at h p k m in
    ap (λ (b : Bool). if b then replace e es else (if nat_lt (length es) room then es ++ e ∷ [] else put_in_full (soonest es) e es)) r.0 ∙ r.1

none_there : (e : Entry) (es : List Entry) → find (same_place e) es ≡ None → list_any (same_place e) es ≡ false
none_there e [] p = refl
none_there e (x ∷ es) p = by (same_place e x) p (none_there e es)
  where
    by : (b : Bool) → (if b then Some x else find (same_place e) es) ≡ None → (find (same_place e) es ≡ None → list_any (same_place e) es ≡ false) → (b || list_any (same_place e) es) ≡ false
    by true q r = (cc)
    by false q r = r q

-- where a search finds none of its place, it is put last
pub put_new : (room : ℕ) (e : Entry) (es : List Entry) → find (same_place e) es ≡ None → put_in room e es ≡ (if nat_lt (length es) room then es ++ e ∷ [] else put_in_full (soonest es) e es)
put_new room e es h = ap (λ (b : Bool). if b then replace e es else (if nat_lt (length es) room then es ++ e ∷ [] else put_in_full (soonest es) e es)) (none_there e es h)

find_place : (e d : Entry) (es : List Entry) → find (same_place e) es ≡ Some d → (e.keys ≡ d.keys) × (e.masks ≡ d.masks)
find_place e d [] p = (cc)
find_place e d (x ∷ es) p = by (same_place e x) refl p (find_place e d es)
  where
    by : (b : Bool) → same_place e x ≡ b → (if b then Some x else find (same_place e) es) ≡ Some d → (find (same_place e) es ≡ Some d → (e.keys ≡ d.keys) × (e.masks ≡ d.masks)) → (e.keys ≡ d.keys) × (e.masks ≡ d.masks)
    by true s q r = let w = (place_decides e x).0 s in let m : x ≡ d = cc in (w.0 ∙ ap (λ (z : Entry). z.keys) m, w.1 ∙ ap (λ (z : Entry). z.masks) m)
    by false s q r = r q

-- where a search finds one, it is put there
pub put_found : (room : ℕ) (e : Entry) (es : List Entry) (at : ℕ) → IsApart es → at < length es → slice_get es at ≡ find (same_place e) es → put_in room e es ≡ slice_set es at e
put_found room e es at h l p = by (slice_get es at) refl
  where
    by : (o : Option Entry) → slice_get es at ≡ o → put_in room e es ≡ slice_set es at e
    by None q = absurd (none-some (get_or es at e) (sym q ∙ slice_get-get_or es at e l))
    by (Some d) q = let w = find_place e d es (sym p ∙ q) in put_at room e d es at h q w.0 w.1

-- an entry is put into the masked part exactly where it has masks
pub put_masked : (d : TableDecl) (t : Parts) (e : Entry) → is_some e.masks ≡ true → record t { masked = put_in d.mask_entries e t.masked } ≡ put d t e
unfolding put
put_masked d t e h = by e.masks refl
  where
    by : (o : Option KeyList) → e.masks ≡ o → record t { masked = put_in d.mask_entries e t.masked } ≡ put_by o d t e
    by None m = let f : false ≡ true = sym (ap (λ (o : Option KeyList). is_some o) m) ∙ h in (cc)
    by (Some masks) m = refl

pub put_exact : (d : TableDecl) (t : Parts) (e : Entry) → is_some e.masks ≡ false → record t { exact = put_in d.exact_entries e t.exact } ≡ put d t e
unfolding put
put_exact d t e h = by e.masks refl
  where
    by : (o : Option KeyList) → e.masks ≡ o → record t { exact = put_in d.exact_entries e t.exact } ≡ put_by o d t e
    by None m = refl
    by (Some masks) m = let f : true ≡ false = sym (ap (λ (o : Option KeyList). is_some o) m) ∙ h in (cc)

abbrev pub parts : List Entry → List Entry → Parts
parts exact masked = record { exact = exact; masked = masked }

pub add_is : (d : TableDecl) (t : Parts) (n : NewEntry) (now : ℕ) → put d t (entry_at n now) ≡ add d t n now
unfolding add
add_is d t n now = refl
