-- A session with an entry at the end of a part fits its database.
use Rattle.std.specs.Prelude.{◌≡◌, ℕ, zero, suc, ◌-◌, ◌<◌, Bool, true, false, ◌&&◌, List, [], ◌∷◌, ◌++◌, length, slice_get, slice_set, Option, Some, None, Result, Ok, Err, IfOk, IfSome}
use Rattle.std.proofs.Common.{refl, sym, ap, subst, ◌∙◌}
use Rattle.std.proofs.lemmas.List.{map-set}
use Rattle.std.proofs.lemmas.Option.{slice_get_within}
use Rattle.std.specs.List.{list_all}
use Rattle.std.proofs.lemmas.List.Folds.{list_all-append}
use Rattle.db_model.specs.declared.database.Database.{Database}
use Rattle.db_model.specs.declared.database.TableDecl.{TableDecl}
use Rattle.db_model.specs.declared.entry.Entry.{Entry}
use Rattle.db_model.specs.Fitting.{row_declared, rows_declared, table_fits, table_declared, tables_fit, session_fits}
use Rattle.db_model.specs.Session.{Session}
use Rattle.db_model.specs.Table.{Parts}
use Rattle.db_model.specs.declared.no_memory.NoMemory.{NoMemory}
use Rattle.session.specs.Entries.{fits_by, fits_in, part_of, part_in, limit_of, limit_in, filled, filled_by}
use Rattle.session.specs.Tables.{contents, IsSound}
use Rattle.session.proofs.Sound.{Touched, stands_at, stands, sound_set}
use Rattle.table_list.specs.State.{State}
use Rattle.table_list.specs.Lists.{part, limit, part_fits, appended}
use Rattle.table_list.proofs.Filled.{filled_fits}

two : (a b : Bool) → (a && b) ≡ true → (a ≡ true) × (b ≡ true)
two true b h = (refl, h)
two false b h = (cc)

both : (a b : Bool) → a ≡ true → b ≡ true → (a && b) ≡ true
both true b h k = k
both false b h k = h

-- the two facts that a fitting entry has
pub record Fitting (db : Database) (d : TableDecl) (masked : Bool) (e : Entry) : Type 0 where
  pub part : part_fits masked d e ≡ true
  pub row : row_declared db e.row ≡ true

pub fitting : (db : Database) (n : ℕ) (masked : Bool) (d : TableDecl) (e : Entry) → slice_get db.tables n ≡ Some d → fits_in db n masked e ≡ true → Fitting db d masked e
fitting db n masked d e g h =
    let b = two (part_fits masked d e) (row_declared db e.row) (subst (λ o. fits_by db masked o e ≡ true) g h) in
    record { part = b.0; row = b.1 }

pub fits_again : (db : Database) (n : ℕ) (masked : Bool) (d : TableDecl) (e : Entry) → slice_get db.tables n ≡ Some d → part_fits masked d e ≡ true → row_declared db e.row ≡ true → fits_in db n masked e ≡ true
fits_again db n masked d e g h k = subst (λ o. fits_by db masked o e ≡ true) (sym g) (both (part_fits masked d e) (row_declared db e.row) h k)

-- an entry that fits is for a declared table
below : {A : Type 0} (xs : List A) (n : ℕ) (x : A) → slice_get xs n ≡ Some x → n < length xs
below xs n x h = slice_get_within xs n x h

pub declared_by_fit : (db : Database) (n : ℕ) (masked : Bool) (e : Entry) → fits_in db n masked e ≡ true → n < length db.tables
declared_by_fit db n masked e h = by (slice_get db.tables n) refl h
  where
    by : (o : Option TableDecl) → slice_get db.tables n ≡ o → fits_by db masked o e ≡ true → n < length db.tables
    by None g k = (cc)
    by (Some d) g k = below db.tables n d g

module _ (db : Database) where
  pub held_fits : (ds : List TableDecl) (ts : Session) (n : ℕ) (d : TableDecl) (t : Parts) → tables_fit db ds ts ≡ true → slice_get ds n ≡ Some d → slice_get ts n ≡ Some t → (table_fits d t ≡ true) × (table_declared db t ≡ true)
  held_fits [] ts n d t h p q = (cc)
  held_fits (c ∷ ds) [] n d t h p q = (cc)
  held_fits (c ∷ ds) (u ∷ ts) zero d t h p q =
      let m : c ≡ d = cc in
      let k : u ≡ t = cc in
      subst (λ x. (table_fits x t ≡ true) × (table_declared db t ≡ true)) m
      (subst (λ x. (table_fits c x ≡ true) × (table_declared db x ≡ true)) k
      (two (table_fits c u) (table_declared db u) (two (table_fits c u && table_declared db u) (tables_fit db ds ts) h).0))
  held_fits (c ∷ ds) (u ∷ ts) (suc n) d t h p q = held_fits ds ts n d t (two (table_fits c u && table_declared db u) (tables_fit db ds ts) h).1 p q

  set_fits : (ds : List TableDecl) (ts : Session) (n : ℕ) (d : TableDecl) (t : Parts) → tables_fit db ds ts ≡ true → slice_get ds n ≡ Some d → table_fits d t ≡ true → table_declared db t ≡ true → tables_fit db ds (slice_set ts n t) ≡ true
  set_fits [] [] n d t h p k r = (cc)
  set_fits [] (u ∷ ts) n d t h p k r = (cc)
  set_fits (c ∷ ds) [] n d t h p k r = (cc)
  set_fits (c ∷ ds) (u ∷ ts) zero d t h p k r =
      let m : d ≡ c = cc in
      both (table_fits c t && table_declared db t) (tables_fit db ds ts) (both (table_fits c t) (table_declared db t) (subst (λ x. table_fits x t ≡ true) m k) r) (two (table_fits c u && table_declared db u) (tables_fit db ds ts) h).1
  set_fits (c ∷ ds) (u ∷ ts) (suc n) d t h p k r =
      let b = two (table_fits c u && table_declared db u) (tables_fit db ds ts) h in
      both (table_fits c u && table_declared db u) (tables_fit db ds (slice_set ts n t)) b.0 (set_fits ds ts n d t b.1 p k r)

  rows_pushed : (es : List Entry) (e : Entry) → rows_declared db es ≡ true → row_declared db e.row ≡ true → rows_declared db (es ++ e ∷ []) ≡ true
  rows_pushed es e h k = list_all-append (λ (x : Entry). row_declared db x.row) es (e ∷ []) ∙ both (rows_declared db es) (row_declared db e.row && true) h (both (row_declared db e.row) true k refl)

  appended_declared : (masked : Bool) (t : Parts) (e : Entry) → table_declared db t ≡ true → row_declared db e.row ≡ true → table_declared db (appended masked e t) ≡ true
  appended_declared false t e h k =
      let b = two (rows_declared db t.exact) (rows_declared db t.masked) h in
      both (rows_declared db (t.exact ++ e ∷ [])) (rows_declared db t.masked) (rows_pushed t.exact e b.0 k) b.1
  appended_declared true t e h k =
      let b = two (rows_declared db t.exact) (rows_declared db t.masked) h in
      both (rows_declared db t.exact) (rows_declared db (t.masked ++ e ∷ [])) b.0 (rows_pushed t.masked e b.1 k)

  -- with the entry at the part's end
  pub session_filled : (s : Session) (n : ℕ) (masked : Bool) (d : TableDecl) (t : Parts) (e : Entry) → session_fits db s ≡ true → slice_get db.tables n ≡ Some d → slice_get s n ≡ Some t → length (part masked t) < limit masked d → Fitting db d masked e
      → session_fits db (slice_set s n (appended masked e t)) ≡ true
  unfolding session_fits
  session_filled s n masked d t e h p q l f =
      let b = held_fits db.tables s n d t h p q in
      set_fits db.tables s n d (appended masked e t) h p (filled_fits masked d t e b.0 l f.part) (appended_declared masked t e b.1 f.row)

pub filled_is : (s : Session) (n : ℕ) (masked : Bool) (t : Parts) (e : Entry) → slice_get s n ≡ Some t → filled s n masked e ≡ slice_set s n (appended masked e t)
filled_is s n masked t e q = ap (λ o. filled_by o s n masked e) q

-- an entry of a session that fits has what is asked of one that is filled in
module _ (P : Entry → Bool) where
  at_all : (es : List Entry) (i : ℕ) (e : Entry) → list_all P es ≡ true → slice_get es i ≡ Some e → P e ≡ true
  at_all [] i e h g = (cc)
  at_all (x ∷ es) zero e h g =
      let m : x ≡ e = cc in
      subst (λ y. P y ≡ true) m (two (P x) (list_all P es) h).0
  at_all (x ∷ es) (suc i) e h g = at_all es i e (two (P x) (list_all P es) h).1 g

row_at : (db : Database) (masked : Bool) (t : Parts) (at : ℕ) (e : Entry) → table_declared db t ≡ true → slice_get (part masked t) at ≡ Some e → row_declared db e.row ≡ true
row_at db false t at e h g = at_all (λ (x : Entry). row_declared db x.row) t.exact at e (two (rows_declared db t.exact) (rows_declared db t.masked) h).0 g
row_at db true t at e h g = at_all (λ (x : Entry). row_declared db x.row) t.masked at e (two (rows_declared db t.exact) (rows_declared db t.masked) h).1 g

pub row_held : (db : Database) (s : Session) (n : ℕ) (masked : Bool) (d : TableDecl) (t : Parts) (at : ℕ) (e : Entry) → session_fits db s ≡ true → slice_get db.tables n ≡ Some d → slice_get s n ≡ Some t → slice_get (part masked t) at ≡ Some e → row_declared db e.row ≡ true
unfolding session_fits
row_held db s n masked d t at e h p q g = row_at db masked t at e (held_fits db db.tables s n d t h p q).1 g

-- ---- calls of a session

pub fill_sound : (db : Database) (ts : List State) (spare n : ℕ) (x y : State) (masked : Bool) (e : Entry) → IsSound db ts spare → 0 < spare → Touched ts n x y → fits_in db n masked e ≡ true → length (part_in (contents ts) n masked) < limit_in db n masked
    → y.content ≡ appended masked e x.content → IsSound db (slice_set ts n y) (spare - 1)
fill_sound db ts spare n x y masked e h l k f r c =
    let s = stands_at db ts spare n x y h k in
    let room : length (part masked x.content) < limit masked x.declaration =
    subst (λ o. length (part masked x.content) < limit_of masked o) s.declared (subst (λ o. length (part_of masked o) < limit_in db n masked) s.held r) in
    sound_set db ts spare n x y h l k
    (ap (λ p. session_fits db (slice_set (contents ts) n p)) c
    ∙ session_filled db (contents ts) n masked x.declaration x.content e h.fits s.declared s.held room (fitting db n masked x.declaration e s.declared f))

pub fill_content : (db : Database) (ts : List State) (spare n : ℕ) (x y : State) (masked : Bool) (e : Entry) → IsSound db ts spare → Touched ts n x y → y.content ≡ appended masked e x.content → contents (slice_set ts n y) ≡ filled (contents ts) n masked e
fill_content db ts spare n x y masked e h k c =
    map-set (λ (z : State). z.content) ts n y
    ∙ ap (λ p. slice_set (contents ts) n p) c
    ∙ sym (filled_is (contents ts) n masked x.content e (stands_at db ts spare n x y h k).held)

pub entry_fits : (db : Database) (ts : List State) (spare n : ℕ) (x : State) (masked : Bool) (at : ℕ) (r : Result (Option Entry) NoMemory) → IsSound db ts spare → slice_get ts n ≡ Some x
    → IfOk r (λ e. e ≡ slice_get (part masked x.content) at) → IfOk r (λ e. IfSome e (λ y. part_fits masked x.declaration y ≡ true)) → IfOk r (λ e. IfSome e (λ y. fits_in db n masked y ≡ true))
entry_fits db ts spare n x masked at (Err e) h g p q = tt
entry_fits db ts spare n x masked at (Ok None) h g p q = tt
entry_fits db ts spare n x masked at (Ok (Some y)) h g p q =
    let s = stands db ts spare n x h g in
    fits_again db n masked x.declaration y s.declared q (row_held db (contents ts) n masked x.declaration x.content at y h.fits s.declared s.held (sym p))
