-- A renewed deadline is the entry put again, in its place.
use Rattle.std.specs.Prelude.{◌≡◌, ℕ, zero, suc, ◌+◌, ◌<◌, ◌≤◌, Bool, true, false, not, is_some, ◌&&◌, nat_le, List, [], ◌∷◌, length, slice_get, slice_set, Option, Some, None}
use Rattle.std.proofs.Common.{refl, sym, ap, subst, ◌∙◌, arith}
use Rattle.std.specs.List.{list_all}
use Rattle.db_model.specs.declared.database.TableDecl.{TableDecl}
use Rattle.db_model.specs.declared.entry.Entry.{Entry}
use Rattle.db_model.specs.Expression.{key_sizes}
use Rattle.db_model.specs.Fitting.{exact_fits, masked_fits, entry_fits, table_fits}
use Rattle.db_model.specs.Kept.{IsApart, Kept}
use Rattle.db_model.specs.Table.{Parts, KeyList, put, put_by, same_keys, masked_by, renewed_by, after_seconds}
use Rattle.db_model.specs.declared.entry.Validity.TheVariants.{UpdateOnHit}
use Rattle.table_list.specs.declared.search.Place.{Place}
use Rattle.table_list.specs.declared.search.Place.TheVariants.{Exact, Masked}
use Rattle.table_list.specs.Lists.{part, part_fits, replaced}
use Rattle.table_list.specs.Search.{entry_at_place}
use Rattle.table_list.proofs.Parts.{put_at}

two : (a b : Bool) → (a && b) ≡ true → (a ≡ true) × (b ≡ true)
two true b h = (refl, h)
two false b h = (cc)

all_at : (p : Entry → Bool) (es : List Entry) (i : ℕ) (e : Entry) → list_all p es ≡ true → slice_get es i ≡ Some e → p e ≡ true
all_at p [] i e h g = (cc)
all_at p (x ∷ es) zero e h g = let m : x ≡ e = cc in subst (λ z. p z ≡ true) m (two (p x) (list_all p es) h).0
all_at p (x ∷ es) (suc i) e h g = all_at p es i e (two (p x) (list_all p es) h).1 g

-- each entry of a part is such as the part keeps
pub fits_there : (d : TableDecl) (t : Parts) (masked : Bool) (i : ℕ) (e : Entry) → table_fits d t ≡ true → slice_get (part masked t) i ≡ Some e → part_fits masked d e ≡ true
unfolding table_fits
fits_there d t false i e h g =
    let a = two (nat_le (length t.exact) d.exact_entries && list_all (exact_fits d) t.exact) (nat_le (length t.masked) d.mask_entries && list_all (masked_fits d) t.masked) h in
    all_at (exact_fits d) t.exact i e (two (nat_le (length t.exact) d.exact_entries) (list_all (exact_fits d) t.exact) a.0).1 g
fits_there d t true i e h g =
    let a = two (nat_le (length t.exact) d.exact_entries && list_all (exact_fits d) t.exact) (nat_le (length t.masked) d.mask_entries && list_all (masked_fits d) t.masked) h in
    all_at (masked_fits d) t.masked i e (two (nat_le (length t.masked) d.mask_entries) (list_all (masked_fits d) t.masked) a.1).1 g

put_exact : (d : TableDecl) (t : Parts) (e : Entry) (at : ℕ) (x : Option ℕ) → IsApart t.exact → slice_get t.exact at ≡ Some e → (o : Option KeyList) → e.masks ≡ o → not (is_some o) ≡ true → put_by o d t (record e { deadline = x }) ≡ record t { exact = slice_set t.exact at (record e { deadline = x }) }
put_exact d t e at x h g None m k = ap (λ (es : List Entry). record t { exact = es }) (put_at d.exact_entries (record e { deadline = x }) e t.exact at h g refl refl)
put_exact d t e at x h g (Some masks) m k = (cc)

put_masked : (d : TableDecl) (t : Parts) (e : Entry) (at : ℕ) (x : Option ℕ) → IsApart t.masked → slice_get t.masked at ≡ Some e → (o : Option KeyList) → e.masks ≡ o → is_some o ≡ true → put_by o d t (record e { deadline = x }) ≡ record t { masked = slice_set t.masked at (record e { deadline = x }) }
put_masked d t e at x h g None m k = (cc)
put_masked d t e at x h g (Some masks) m k = ap (λ (es : List Entry). record t { masked = es }) (put_at d.mask_entries (record e { deadline = x }) e t.masked at h g refl refl)

pub renewed_in_place : (d : TableDecl) (t : Parts) (place : Place) (e : Entry) (x : Option ℕ) → table_fits d t ≡ true → Kept d t → entry_at_place t place ≡ Some e → replaced place (record e { deadline = x }) t ≡ put d t (record e { deadline = x })
unfolding put
renewed_in_place d t (Exact at) e x h k g =
    sym (put_exact d t e at x k.exact_apart g e.masks refl (two (not (is_some e.masks)) (entry_fits d e) (fits_there d t false at e h g)).0)
renewed_in_place d t (Masked at) e x h k g =
    sym (put_masked d t e at x k.masked_apart g e.masks refl (two (is_some e.masks) (same_keys (masked_by e.masks e.keys) e.keys && entry_fits d e) (fits_there d t true at e h g)).0)

-- a renewing hit on an entry of the kind updateonhit, and one of the kind addonhit
pub renewed : (d : TableDecl) (t u : Parts) (place : Place) (e : Entry) (keys : KeyList) (now x : ℕ) → table_fits d t ≡ true → Kept d t → entry_at_place t place ≡ Some e → e.validity ≡ UpdateOnHit → x ≡ after_seconds now e.hit → u ≡ replaced place (record e { deadline = Some x }) t → u ≡ renewed_by e.validity d t keys now e
renewed d t u place e keys now x h k g v p q =
    q ∙ renewed_in_place d t place e (Some x) h k g
    ∙ ap (λ (y : ℕ). put d t (record e { deadline = Some y })) p
    ∙ ap (λ w. renewed_by w d t keys now e) (sym v)
