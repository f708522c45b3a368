-- What fits stays so: a question that fits leaves a session that fits, and the row of its hit fits.
use Rattle.std.specs.Prelude.{◌≡◌, ℕ, zero, suc, ◌<◌, ◌≤◌, Bool, true, false, not, ◌&&◌, if◌then◌else◌, nat_lt, nat_le, ◌==◌, List, [], ◌∷◌, ◌++◌, map, length, find, slice_get, slice_set, bit_and, is_some, Option, Some, None}
use Rattle.std.proofs.Common.{refl, sym, ap, subst, ◌∙◌, arith}
use Rattle.std.specs.List.{list_any, list_all}
use Rattle.std.specs.Option.{option_eq}
use Rattle.std.proofs.lemmas.Bool.Decides.{Decides-eqb, Decides-ltb}
use Rattle.std.proofs.lemmas.Bool.{le-leb, leb-true}
use Rattle.std.specs.Int.Bits.{and_self}
use Rattle.std.proofs.lemmas.Nat.{and_assoc}
use Rattle.db_model.specs.declared.database.Database.{Database}
use Rattle.db_model.specs.declared.database.TableDecl.{TableDecl}
use Rattle.db_model.specs.declared.entry.Entry.{Entry}
use Rattle.db_model.specs.declared.entry.NewEntry.{NewEntry}
use Rattle.db_model.specs.declared.entry.Validity.{Validity}
use Rattle.db_model.specs.declared.entry.Validity.TheVariants.{Forever, MaxTime, UpdateOnHit, AddOnHit}
use Rattle.db_model.specs.declared.limits.TheConstants.{GREATEST_NUMBER, DEADLINE_END, STAMP_END}
use Rattle.db_model.specs.declared.question.Answer.{Answer}
use Rattle.db_model.specs.declared.question.Answer.TheVariants.{Miss, Hit, Done}
use Rattle.db_model.specs.declared.question.Question.{Question}
use Rattle.db_model.specs.declared.question.Question.TheVariants.{Look, Add}
use Rattle.db_model.specs.Expression.{key_sizes}
use Rattle.db_model.specs.Fitting.{keys_fit, masks_fit, row_fits, row_declared, look_fits, add_fits, look_fits_in, add_fits_in, question_fits, log_fits, deadline_fits, entry_fits, exact_fits, masked_fits, table_fits, rows_declared, table_declared, tables_fit, session_fits, hit_fits, answer_fits, table_of}
use Rattle.db_model.specs.Forms.{is_number}
use Rattle.db_laws.specs.Laws.{TableFits, TableOfQuestion, FitsStay, AfterFits}
use Rattle.db_model.specs.Session.{Session, declared, look_in, add_in, ask}
use Rattle.db_model.specs.Table.{Parts, KeyList, empty, same_keys, same_place, masked, masked_by, live, matches, replace, soonest, evict, put_in_full, put_in, put_by, put, after_seconds, first_deadline, entry_at, add, if_live, first_of, matching_entry, renewed_by, answered, look}
use Rattle.db_laws.proofs.Kept.{keys_decide, put_in_within}

pub and_first : (a b : Bool) → (a && b) ≡ true → a ≡ true
and_first true b h = refl
and_first false b h = h

pub and_second : (a b : Bool) → (a && b) ≡ true → b ≡ true
and_second true b h = h
and_second false b h = (cc)

pub and_both : (a b : Bool) → a ≡ true → b ≡ true → (a && b) ≡ true
and_both true b h k = k
and_both false b h k = h

pub not_false : (a : Bool) → not a ≡ false → a ≡ true
not_false true h = refl
not_false false h = (cc)

-- both of two tests
pub two : (a b : Bool) → (a && b) ≡ true → (a ≡ true) × (b ≡ true)
two a b h = (and_first a b h, and_second a b h)

-- ---- a test that all entries of a part pass

module _ (P : Entry → Bool) where
  all_push : (e : Entry) (es : List Entry) → list_all P es ≡ true → P e ≡ true → list_all P (es ++ e ∷ []) ≡ true
  all_push e [] h k = and_both (P e) true k refl
  all_push e (d ∷ es) h k = and_both (P d) (list_all P (es ++ e ∷ [])) (and_first (P d) (list_all P es) h) (all_push e es (and_second (P d) (list_all P es) h) k)

  all_evict : (t : ℕ) (es : List Entry) → list_all P es ≡ true → list_all P (evict t es) ≡ true
  all_evict t [] h = refl
  all_evict t (e ∷ es) h = pick (option_eq ◌==◌ e.deadline (Some t)) (all_evict t es (and_second (P e) (list_all P es) h))
    where
      pick : (b : Bool) → list_all P (evict t es) ≡ true → list_all P (if b then es else e ∷ evict t es) ≡ true
      pick true ih = and_second (P e) (list_all P es) h
      pick false ih = and_both (P e) (list_all P (evict t es)) (and_first (P e) (list_all P es) h) ih

  all_replace : (e : Entry) (es : List Entry) → list_all P es ≡ true → P e ≡ true → list_all P (replace e es) ≡ true
  all_replace e [] h k = refl
  all_replace e (d ∷ es) h k = pick (same_place e d) (all_replace e es (and_second (P d) (list_all P es) h) k)
    where
      pick : (b : Bool) → list_all P (replace e es) ≡ true → list_all P (if b then e ∷ es else d ∷ replace e es) ≡ true
      pick true ih = and_both (P e) (list_all P es) k (and_second (P d) (list_all P es) h)
      pick false ih = and_both (P d) (list_all P (replace e es)) (and_first (P d) (list_all P es) h) ih

  all_put : (room : ℕ) (e : Entry) (es : List Entry) → list_all P es ≡ true → P e ≡ true → list_all P (put_in room e es) ≡ true
  all_put room e es h k = by (list_any (same_place e) es) (nat_lt (length es) room) (soonest es)
    where
      full : (o : Option ℕ) → list_all P (put_in_full o e es) ≡ true
      full None = h
      full (Some t) = all_push e (evict t es) (all_evict t es h) k

      by : (a b : Bool) (o : Option ℕ) → list_all P (if a then replace e es else (if b then es ++ e ∷ [] else put_in_full o e es)) ≡ true
      by true b o = all_replace e es h k
      by false true o = all_push e es h k
      by false false o = full o

  all_find : (test : Entry → Bool) (es : List Entry) (e : Entry) → list_all P es ≡ true → find test es ≡ Some e → P e ≡ true
  all_find test [] e h k = (cc)
  all_find test (d ∷ es) e h k = pick (test d) (all_find test es e (and_second (P d) (list_all P es) h)) k
    where
      pick : (b : Bool) → (find test es ≡ Some e → P e ≡ true) → (if b then Some d else find test es) ≡ Some e → P e ≡ true
      pick true ih g = let m : d ≡ e = cc in subst (λ x. P x ≡ true) m (and_first (P d) (list_all P es) h)
      pick false ih g = ih g

-- what a look-up finds is found in one of the two parts
found_in : {Q : Type 0} (t : Parts) (keys : KeyList) (now : ℕ) (e : Entry) → ((i : Entry → Bool) → find i t.exact ≡ Some e → Q) → ((i : Entry → Bool) → find i t.masked ≡ Some e → Q) → matching_entry t keys now ≡ Some e → Q
found_in {Q} t keys now e h k g = by (find (λ d. same_keys keys d.keys) t.exact) refl g
  where
    by : (o : Option Entry) → find (λ d. same_keys keys d.keys) t.exact ≡ o → first_of (if_live now o) (find (λ d. live d now && matches d keys) t.masked) ≡ Some e → Q
    by None p q = k _ q
    by (Some d) p q = alive (live d now) q
      where
        alive : (b : Bool) → first_of (if b then Some d else None) (find (λ x. live x now && matches x keys) t.masked) ≡ Some e → Q
        alive true r = let m : Some d ≡ Some e = r in h _ (p ∙ m)
        alive false r = k _ r

-- ---- masked keys

masked_length : (m k : List ℕ) (n : ℕ) → (length m == n) ≡ true → (length k == n) ≡ true → (length (masked m k) == n) ≡ true
masked_length m k n h g =
    (Decides-eqb (length (masked m k)) n).1 (by m k ((Decides-eqb (length m) n).0 h ∙ sym ((Decides-eqb (length k) n).0 g)) ∙ (Decides-eqb (length k) n).0 g)
  where
    by : (m k : List ℕ) → length m ≡ length k → length (masked m k) ≡ length k
    by [] [] e = refl
    by [] (y ∷ k) e = (cc)
    by (x ∷ m) [] e = (cc)
    by (x ∷ m) (y ∷ k) e = ap suc (by m k (omega arith))

-- masked keys have the sizes of the keys
keys_masked : (sizes : List ℕ) (ms ks : KeyList) → keys_fit sizes ms ≡ true → keys_fit sizes ks ≡ true → keys_fit sizes (masked_by (Some ms) ks) ≡ true
keys_masked [] [] [] h g = refl
keys_masked [] [] (k ∷ ks) h g = refl
keys_masked [] (m ∷ ms) ks h g = (cc)
keys_masked (s ∷ ss) [] ks h g = (cc)
keys_masked (s ∷ ss) (m ∷ ms) [] h g = g
keys_masked (s ∷ ss) (m ∷ ms) (k ∷ ks) h g =
    and_both (length (masked m k) == s) (keys_fit ss (masked_by (Some ms) ks))
    (masked_length m k s (and_first (length m == s) (keys_fit ss ms) h) (and_first (length k == s) (keys_fit ss ks) g))
    (keys_masked ss ms ks (and_second (length m == s) (keys_fit ss ms) h) (and_second (length k == s) (keys_fit ss ks) g))

keys_by : (sizes : List ℕ) (o : Option KeyList) (ks : KeyList) → masks_fit sizes o ≡ true → keys_fit sizes ks ≡ true → keys_fit sizes (masked_by o ks) ≡ true
keys_by sizes None ks h g = g
keys_by sizes (Some ms) ks h g = keys_masked sizes ms ks h g

-- keys that are masked are the same when they are masked again
masked_again : (m k : List ℕ) → masked m (masked m k) ≡ masked m k
masked_again [] k = refl
masked_again (x ∷ m) [] = refl
masked_again (x ∷ m) (y ∷ k) = λ i. once x y i ∷ masked_again m k i
  where
    once : (a b : ℕ) → bit_and a (bit_and a b) ≡ bit_and a b
    once a b = sym (and_assoc b a a) ∙ ap (λ c. bit_and c b) (and_self a)

all_again : (ms ks : KeyList) → masked_by (Some ms) (masked_by (Some ms) ks) ≡ masked_by (Some ms) ks
all_again [] ks = refl
all_again (m ∷ ms) [] = refl
all_again (m ∷ ms) (k ∷ ks) = λ i. masked_again m k i ∷ all_again ms ks i

kept_masked : (o : Option KeyList) (ks : KeyList) → same_keys (masked_by o (masked_by o ks)) (masked_by o ks) ≡ true
kept_masked None ks = (keys_decide ks ks).1 refl
kept_masked (Some ms) ks = (keys_decide (masked_by (Some ms) (masked_by (Some ms) ks)) (masked_by (Some ms) ks)).1 (all_again ms ks)

-- ---- deadlines

soon_enough : (t n : ℕ) → t < STAMP_END → is_number n ≡ true → nat_lt (after_seconds t n) DEADLINE_END ≡ true
soon_enough t n h k = (Decides-ltb (after_seconds t n) DEADLINE_END).1 (omega (arith, h, leb-true n GREATEST_NUMBER k))

first_fits : (v : Validity) (keep t : ℕ) → t < STAMP_END → is_number keep ≡ true → deadline_fits v (first_deadline v keep t) ≡ true
first_fits Forever keep t h k = refl
first_fits MaxTime keep t h k = soon_enough t keep h k
first_fits UpdateOnHit keep t h k = soon_enough t keep h k
first_fits AddOnHit keep t h k = refl

-- ---- tables

module _ (d : TableDecl) where
  -- the facts on an entry, one by one
  record Facts (e : Entry) : Type 0 where
    keys : keys_fit (key_sizes (Some d)) e.keys ≡ true
    masks : masks_fit (key_sizes (Some d)) e.masks ≡ true
    row : row_fits d.columns e.row ≡ true
    hit : is_number e.hit ≡ true
    deadline : deadline_fits e.validity e.deadline ≡ true

  facts : (e : Entry) → entry_fits d e ≡ true → Facts e
  facts e h =
      let a = two (keys_fit (key_sizes (Some d)) e.keys) (masks_fit (key_sizes (Some d)) e.masks && (row_fits d.columns e.row && (is_number e.hit && deadline_fits e.validity e.deadline))) h in
      let b = two (masks_fit (key_sizes (Some d)) e.masks) (row_fits d.columns e.row && (is_number e.hit && deadline_fits e.validity e.deadline)) a.1 in
      let c = two (row_fits d.columns e.row) (is_number e.hit && deadline_fits e.validity e.deadline) b.1 in
      let f = two (is_number e.hit) (deadline_fits e.validity e.deadline) c.1 in
      record { keys = a.0; masks = b.0; row = c.0; hit = f.0; deadline = f.1 }

  from_facts : (e : Entry) → Facts e → entry_fits d e ≡ true
  from_facts e f =
      and_both (keys_fit (key_sizes (Some d)) e.keys) (masks_fit (key_sizes (Some d)) e.masks && (row_fits d.columns e.row && (is_number e.hit && deadline_fits e.validity e.deadline))) f.keys
      (and_both (masks_fit (key_sizes (Some d)) e.masks) (row_fits d.columns e.row && (is_number e.hit && deadline_fits e.validity e.deadline)) f.masks
      (and_both (row_fits d.columns e.row) (is_number e.hit && deadline_fits e.validity e.deadline) f.row
      (and_both (is_number e.hit) (deadline_fits e.validity e.deadline) f.hit f.deadline)))

  -- an entry of either part
  record Fits (e : Entry) : Type 0 where
    again : same_keys (masked_by e.masks e.keys) e.keys ≡ true
    facts : Facts e

  -- the facts on a table, one by one
  record TableFacts (t : Parts) : Type 0 where
    exact_room : length t.exact ≤ d.exact_entries
    masked_room : length t.masked ≤ d.mask_entries
    exact : list_all (exact_fits d) t.exact ≡ true
    masked : list_all (masked_fits d) t.masked ≡ true

  abbrev exact_test : Parts → Bool
  exact_test t = nat_le (length t.exact) d.exact_entries && list_all (exact_fits d) t.exact

  abbrev masked_test : Parts → Bool
  masked_test t = nat_le (length t.masked) d.mask_entries && list_all (masked_fits d) t.masked

  table_facts : (t : Parts) → table_fits d t ≡ true → TableFacts t
  unfolding table_fits
  table_facts t h =
      let a = two (exact_test t) (masked_test t) h in
      let b = two (nat_le (length t.exact) d.exact_entries) (list_all (exact_fits d) t.exact) a.0 in
      let c = two (nat_le (length t.masked) d.mask_entries) (list_all (masked_fits d) t.masked) a.1 in
      record { exact_room = leb-true (length t.exact) d.exact_entries b.0; masked_room = leb-true (length t.masked) d.mask_entries c.0; exact = b.1; masked = c.1 }

  from_table_facts : (t : Parts) → TableFacts t → table_fits d t ≡ true
  unfolding table_fits
  from_table_facts t f =
      and_both (exact_test t) (masked_test t)
      (and_both (nat_le (length t.exact) d.exact_entries) (list_all (exact_fits d) t.exact) (le-leb (length t.exact) d.exact_entries f.exact_room) f.exact)
      (and_both (nat_le (length t.masked) d.mask_entries) (list_all (masked_fits d) t.masked) (le-leb (length t.masked) d.mask_entries f.masked_room) f.masked)

  from_exact : (e : Entry) → exact_fits d e ≡ true → Fits e
  from_exact e h =
      let a = two (not (is_some e.masks)) (entry_fits d e) h in
      record { again = by e.masks a.0; facts = facts e a.1 }
    where
      by : (o : Option KeyList) → not (is_some o) ≡ true → same_keys (masked_by o e.keys) e.keys ≡ true
      by None k = (keys_decide e.keys e.keys).1 refl
      by (Some ms) k = (cc)

  from_masked : (e : Entry) → masked_fits d e ≡ true → Fits e
  from_masked e h =
      let a = two (is_some e.masks) (same_keys (masked_by e.masks e.keys) e.keys && entry_fits d e) h in
      let b = two (same_keys (masked_by e.masks e.keys) e.keys) (entry_fits d e) a.1 in
      record { again = b.0; facts = facts e b.1 }

  -- what fits is put into its part
  put_fits : (t : Parts) (e : Entry) → TableFacts t → Fits e → TableFacts (put d t e)
  unfolding put
  put_fits t e h k = by e.masks refl
    where
      by : (o : Option KeyList) → e.masks ≡ o → TableFacts (put_by o d t e)
      by None m = record {
        exact_room = put_in_within d.exact_entries e t.exact h.exact_room;
        masked_room = h.masked_room;
        exact = all_put (exact_fits d) d.exact_entries e t.exact h.exact (and_both (not (is_some e.masks)) (entry_fits d e) (ap (λ (x : Option KeyList). not (is_some x)) m) (from_facts e k.facts));
        masked = h.masked;
      }
      by (Some ms) m = record {
        exact_room = h.exact_room;
        masked_room = put_in_within d.mask_entries e t.masked h.masked_room;
        exact = h.exact;
        masked = all_put (masked_fits d) d.mask_entries e t.masked h.masked
            (and_both (is_some e.masks) (same_keys (masked_by e.masks e.keys) e.keys && entry_fits d e) (ap (λ (x : Option KeyList). is_some x) m)
            (and_both (same_keys (masked_by e.masks e.keys) e.keys) (entry_fits d e) k.again (from_facts e k.facts)));
      }

  added_fits : (t : Parts) (n : NewEntry) (now : ℕ) → table_fits d t ≡ true → add_fits d n ≡ true → now < STAMP_END → table_fits d (add d t n now) ≡ true
  unfolding add add_fits
  added_fits t n now h k s =
      let sizes = key_sizes (Some d) in
      let a = two (keys_fit sizes n.keys) (masks_fit sizes n.masks && (row_fits d.columns n.row && (is_number n.keep && is_number n.hit))) k in
      let b = two (masks_fit sizes n.masks) (row_fits d.columns n.row && (is_number n.keep && is_number n.hit)) a.1 in
      let c = two (row_fits d.columns n.row) (is_number n.keep && is_number n.hit) b.1 in
      let f = two (is_number n.keep) (is_number n.hit) c.1 in
      from_table_facts (add d t n now) (put_fits t (entry_at n now) (table_facts t h) (record {
        again = kept_masked n.masks n.keys;
        facts = record { keys = keys_by sizes n.masks n.keys b.0 a.0; masks = b.0; row = c.0; hit = f.1; deadline = first_fits n.validity n.keep now s f.0 };
      }))

  renewed_fits : (v : Validity) (t : Parts) (keys : KeyList) (now : ℕ) (e : Entry) → TableFacts t → keys_fit (key_sizes (Some d)) keys ≡ true → e.validity ≡ v → Fits e → now < STAMP_END → TableFacts (renewed_by v d t keys now e)
  renewed_fits Forever t keys now e h g m k s = h
  renewed_fits MaxTime t keys now e h g m k s = h
  renewed_fits UpdateOnHit t keys now e h g m k s =
      put_fits t (record e { deadline = Some (after_seconds now e.hit) }) h (record {
        again = k.again;
        facts = record { keys = k.facts.keys; masks = k.facts.masks; row = k.facts.row; hit = k.facts.hit; deadline = subst (λ v. deadline_fits v (Some (after_seconds now e.hit)) ≡ true) (sym m) (soon_enough now e.hit s k.facts.hit) };
      })
  renewed_fits AddOnHit t keys now e h g m k s =
      put_fits t (record { keys = keys; masks = None; validity = UpdateOnHit; hit = e.hit; deadline = Some (after_seconds now e.hit); row = e.row }) h (record {
        again = (keys_decide keys keys).1 refl;
        facts = record { keys = g; masks = refl; row = k.facts.row; hit = k.facts.hit; deadline = soon_enough now e.hit s k.facts.hit };
      })

  looked_fits : (t : Parts) (keys : KeyList) (renew : Bool) (now : ℕ) → table_fits d t ≡ true → look_fits d keys ≡ true → now < STAMP_END → (hit_fits d (look d t keys renew now).0 ≡ true) × (table_fits d (look d t keys renew now).1 ≡ true)
  unfolding look look_fits
  looked_fits t keys renew now h g s = by (matching_entry t keys now) refl renew
    where
      there : (e : Entry) → matching_entry t keys now ≡ Some e → Fits e
      there e p = let f = table_facts t h in found_in t keys now e (λ i k. from_exact e (all_find (exact_fits d) i t.exact e f.exact k)) (λ i k. from_masked e (all_find (masked_fits d) i t.masked e f.masked k)) p

      by : (o : Option Entry) → matching_entry t keys now ≡ o → (r : Bool) → (hit_fits d (answered d t keys r now o).0 ≡ true) × (table_fits d (answered d t keys r now o).1 ≡ true)
      by None p r = (refl, h)
      by (Some e) p true = ((there e p).facts.row, from_table_facts (renewed_by e.validity d t keys now e) (renewed_fits e.validity t keys now e (table_facts t h) g refl (there e p) s))
      by (Some e) p false = ((there e p).facts.row, h)

pub table_fits_stays : TableFits
table_fits_stays = record { added = added_fits; looked = looked_fits }

-- ---- declared protocols

module _ (db : Database) where
  abbrev knows : Entry → Bool
  knows e = row_declared db e.row

  put_declared : (d : TableDecl) (t : Parts) (e : Entry) → table_declared db t ≡ true → knows e ≡ true → table_declared db (put d t e) ≡ true
  unfolding put
  put_declared d t e h k = let a = two (rows_declared db t.exact) (rows_declared db t.masked) h in by e.masks a.0 a.1
    where
      by : (o : Option KeyList) → rows_declared db t.exact ≡ true → rows_declared db t.masked ≡ true → table_declared db (put_by o d t e) ≡ true
      by None p q = and_both (rows_declared db (put_in d.exact_entries e t.exact)) (rows_declared db t.masked) (all_put knows d.exact_entries e t.exact p k) q
      by (Some ms) p q = and_both (rows_declared db t.exact) (rows_declared db (put_in d.mask_entries e t.masked)) p (all_put knows d.mask_entries e t.masked q k)

  renewed_declared : (v : Validity) (d : TableDecl) (t : Parts) (keys : KeyList) (now : ℕ) (e : Entry) → table_declared db t ≡ true → knows e ≡ true → table_declared db (renewed_by v d t keys now e) ≡ true
  renewed_declared Forever d t keys now e h k = h
  renewed_declared MaxTime d t keys now e h k = h
  renewed_declared UpdateOnHit d t keys now e h k = put_declared d t _ h k
  renewed_declared AddOnHit d t keys now e h k = put_declared d t _ h k

  abbrev row_known : Answer → Type 0
  row_known Miss = Unit {0}
  row_known (Hit row) = row_declared db row ≡ true
  row_known Done = Unit {0}

  look_declared : (d : TableDecl) (t : Parts) (keys : KeyList) (renew : Bool) (now : ℕ) → table_declared db t ≡ true → row_known (look d t keys renew now).0 × (table_declared db (look d t keys renew now).1 ≡ true)
  unfolding look
  look_declared d t keys renew now h = by (matching_entry t keys now) refl renew
    where
      there : (e : Entry) → matching_entry t keys now ≡ Some e → knows e ≡ true
      there e p = let a = two (rows_declared db t.exact) (rows_declared db t.masked) h in found_in t keys now e (λ i k. all_find knows i t.exact e a.0 k) (λ i k. all_find knows i t.masked e a.1 k) p

      by : (o : Option Entry) → matching_entry t keys now ≡ o → (r : Bool) → row_known (answered d t keys r now o).0 × (table_declared db (answered d t keys r now o).1 ≡ true)
      by None p r = (tt, h)
      by (Some e) p true = (there e p, renewed_declared e.validity d t keys now e h (there e p))
      by (Some e) p false = (there e p, h)

-- ---- sessions

module _ (db : Database) where
  abbrev Both : TableDecl → Parts → Type 0
  Both d t = (table_fits d t ≡ true) × (table_declared db t ≡ true)

  abbrev both : TableDecl → Parts → Bool
  both d t = table_fits d t && table_declared db t

  both_at : (ds : List TableDecl) (ts : Session) (n : ℕ) (d : TableDecl) (t : Parts) → tables_fit db ds ts ≡ true → slice_get ds n ≡ Some d → slice_get ts n ≡ Some t → Both d t
  both_at [] ts n d t h p q = (cc)
  both_at (c ∷ ds) [] n d t h p q = (cc)
  both_at (c ∷ ds) (u ∷ ts) zero d t h p q =
      let a = and_first (both c u) (tables_fit db ds ts) h in
      let m : c ≡ d = cc in
      let n : u ≡ t = cc in
      subst (λ x. Both x t) m (subst (λ x. Both c x) n (two (table_fits c u) (table_declared db u) a))
  both_at (c ∷ ds) (u ∷ ts) (suc n) d t h p q = both_at ds ts n d t (and_second (both c u) (tables_fit db ds ts) h) p q

  set_fits : (ds : List TableDecl) (ts : Session) (n : ℕ) (d : TableDecl) (t : Parts) → tables_fit db ds ts ≡ true → slice_get ds n ≡ Some d → Both d t → tables_fit db ds (slice_set ts n t) ≡ true
  set_fits [] [] n d t h p k = (cc)
  set_fits [] (u ∷ ts) n d t h p k = (cc)
  set_fits (c ∷ ds) [] n d t h p k = (cc)
  set_fits (c ∷ ds) (u ∷ ts) zero d t h p k =
      let m : d ≡ c = cc in
      let b = subst (λ x. Both x t) m k in
      and_both (both c t) (tables_fit db ds ts) (and_both (table_fits c t) (table_declared db t) b.0 b.1) (and_second (both c u) (tables_fit db ds ts) h)
  set_fits (c ∷ ds) (u ∷ ts) (suc n) d t h p k =
      and_both (both c u) (tables_fit db ds (slice_set ts n t)) (and_first (both c u) (tables_fit db ds ts) h) (set_fits ds ts n d t (and_second (both c u) (tables_fit db ds ts) h) p k)

  look_in_fits : (s : Session) (n : ℕ) (keys : KeyList) (renew : Bool) (now : ℕ) (o : Option TableDecl) (u : Option Parts) → tables_fit db db.tables s ≡ true → slice_get db.tables n ≡ o → slice_get s n ≡ u → look_fits_in o keys ≡ true → now < STAMP_END
      → (answer_fits db o (look_in o u s n keys renew now).0 ≡ true) × (tables_fit db db.tables (look_in o u s n keys renew now).1 ≡ true)
  look_in_fits s n keys renew now None u h p q k l = (cc)
  look_in_fits s n keys renew now (Some d) None h p q k l = (refl, h)
  look_in_fits s n keys renew now (Some d) (Some t) h p q k l =
      let b = both_at db.tables s n d t h p q in
      let r = looked_fits d t keys renew now b.0 k l in
      let m = look_declared db d t keys renew now b.1 in
      (same (look d t keys renew now).0 r.0 m.0, set_fits db.tables s n d (look d t keys renew now).1 h p (r.1, m.1))
    where
      same : (a : Answer) → hit_fits d a ≡ true → row_known db a → answer_fits db (Some d) a ≡ true
      same Miss x y = refl
      same (Hit row) x y = and_both (row_fits d.columns row) (row_declared db row) x y
      same Done x y = refl

  add_in_fits : (s : Session) (n : ℕ) (e : NewEntry) (now : ℕ) (o : Option TableDecl) (u : Option Parts) → tables_fit db db.tables s ≡ true → slice_get db.tables n ≡ o → slice_get s n ≡ u → add_fits_in db o e ≡ true → now < STAMP_END
      → tables_fit db db.tables (add_in o u s n e now).1 ≡ true
  unfolding add
  add_in_fits s n e now None u h p q k l = (cc)
  add_in_fits s n e now (Some d) None h p q k l = h
  add_in_fits s n e now (Some d) (Some t) h p q k l =
      let b = both_at db.tables s n d t h p q in
      let a = two (add_fits d e) (row_declared db e.row) k in
      set_fits db.tables s n d (add d t e now) h p (added_fits d t e now b.0 a.0 l, added_declared a.1 b.1)
    where
      added_declared : row_declared db e.row ≡ true → table_declared db t ≡ true → table_declared db (add d t e now) ≡ true
      added_declared x y = put_declared db d t (entry_at e now) y x

  -- the session of a database to which nothing was added
  empty_fits : (ds : List TableDecl) → tables_fit db ds (map (λ d. empty) ds) ≡ true
  empty_fits [] = refl
  empty_fits (d ∷ ds) =
      and_both (both d empty) (tables_fit db ds (map (λ c. empty) ds))
      (and_both (table_fits d empty) (table_declared db empty) (from_table_facts d empty (record { exact_room = omega arith; masked_room = omega arith; exact = refl; masked = refl })) refl)
      (empty_fits ds)

get_below : {A : Type 0} (xs : List A) (n : ℕ) (x : A) → slice_get xs n ≡ Some x → n < length xs
get_below [] n x e = (cc)
get_below (y ∷ xs) zero x e = omega arith
get_below (y ∷ xs) (suc n) x e = omega (arith, get_below xs n x e)

look_below : (db : Database) (n : ℕ) (keys : KeyList) (o : Option TableDecl) → slice_get db.tables n ≡ o → look_fits_in o keys ≡ true → n < length db.tables
look_below db n keys None e h = (cc)
look_below db n keys (Some d) e h = get_below db.tables n d e

add_below : (db : Database) (n : ℕ) (a : NewEntry) (o : Option TableDecl) → slice_get db.tables n ≡ o → add_fits_in db o a ≡ true → n < length db.tables
add_below db n a None e h = (cc)
add_below db n a (Some d) e h = get_below db.tables n d e

number_below : (db : Database) (q : Question) → question_fits db q ≡ true → table_of q < length db.tables
unfolding question_fits
number_below db (Look n keys renew) h = look_below db n keys (slice_get db.tables n) refl h
number_below db (Add n a) h = add_below db n a (slice_get db.tables n) refl h

pub table_of_question : TableOfQuestion
unfolding question_fits session_fits
table_of_question = record {
  number = number_below;
  looked = λ db n keys renew d e h. subst (λ o. look_fits_in o keys ≡ true) e h;
  added = λ db n a d e h. and_first (add_fits d a) (row_declared db a.row) (subst (λ o. add_fits_in db o a ≡ true) e h);
  held = λ db s n d t p q h. (both_at db db.tables s n d t h p q).0;
}

pub declared_fits : (db : Database) → session_fits db (declared db) ≡ true
unfolding session_fits
declared_fits db = empty_fits db db.tables

pub fits_stay : FitsStay
unfolding ask session_fits question_fits
fits_stay db s (Look n keys renew) t h k l = look_in_fits db s n keys renew t (slice_get db.tables n) (slice_get s n) h refl refl k l
fits_stay db s (Add n e) t h k l = (done (slice_get db.tables n) (slice_get s n), add_in_fits db s n e t (slice_get db.tables n) (slice_get s n) h refl refl k l)
  where
    done : (o : Option TableDecl) (u : Option Parts) → answer_fits db o (add_in o u s n e t).0 ≡ true
    done None u = refl
    done (Some d) None = refl
    done (Some d) (Some v) = refl

pub after_fits : AfterFits
after_fits db t [] s h k l = h
after_fits db t (e ∷ m) s h k l =
    let b = two (question_fits db e.0) (log_fits db m) k in
    after_fits db t m (ask db s e.0 t).1 (fits_stay db s e.0 t h b.0 l).1 b.1 l
