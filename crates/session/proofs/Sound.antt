-- What a session keeps of its tables, and how one that is changed keeps it.
use Rattle.std.specs.Prelude.{◌≡◌, ℕ, zero, suc, ◌+◌, ◌-◌, ◌<◌, ◌≤◌, Bool, true, List, [], ◌∷◌, map, length, get_or, slice_get, slice_set, Option, Some, None}
use Rattle.std.proofs.Common.{refl, sym, ap, subst, ◌∙◌, arith}
use Rattle.std.specs.List.{All}
use Rattle.std.specs.Option.{option_map}
use Rattle.std.proofs.lemmas.List.{map-set, length-map}
use Rattle.std.proofs.lemmas.List.Elements.{All-set}
use Rattle.std.proofs.lemmas.Option.{slice_get-map, slice_get_read}
use Rattle.db_model.specs.declared.database.Database.{Database}
use Rattle.db_model.specs.declared.database.TableDecl.{TableDecl}
use Rattle.db_model.specs.declared.entry.NewEntry.{NewEntry}
use Rattle.db_model.specs.declared.question.Answer.{Answer}
use Rattle.db_model.specs.declared.question.Answer.TheVariants.{Done}
use Rattle.db_model.specs.declared.question.Question.TheVariants.{Look, Add}
use Rattle.db_laws.specs.Laws.{FitsStay}
use Rattle.db_model.specs.declared.limits.TheConstants.{STAMP_END}
use Rattle.db_model.specs.Fitting.{question_fits, session_fits}
use Rattle.db_model.specs.Session.{Session, declared, look_in, add_in, ask}
use Rattle.db_model.specs.Table.{Parts, KeyList, empty, add, look}
use Rattle.session.specs.Tables.{declarations, contents, IsSound}
use Rattle.table_list.specs.State.{State, new_table}

-- ---- the table of a number

-- the table at a place is that of the declaration at that place
pub record Stands (db : Database) (ts : List State) (n : ℕ) (x : State) : Type 0 where
  pub declared : slice_get db.tables n ≡ Some x.declaration
  pub held : slice_get (contents ts) n ≡ Some x.content
  pub room : slice_get ts n ≡ Some x

at_map : {A B : Type 0} (f : A → B) (xs : List A) (n : ℕ) (x : A) → slice_get xs n ≡ Some x → slice_get (map f xs) n ≡ Some (f x)
at_map f xs n x h = slice_get-map f xs n ∙ ap (option_map f) h

pub stands : (db : Database) (ts : List State) (spare n : ℕ) (x : State) → IsSound db ts spare → slice_get ts n ≡ Some x → Stands db ts n x
stands db ts spare n x h g = record {
  declared = subst (λ (l : List TableDecl). slice_get l n ≡ Some x.declaration) h.declared (at_map (λ (t : State). t.declaration) ts n x g);
  held = at_map (λ (t : State). t.content) ts n x g;
  room = g;
}

-- there are as many tables as declarations
pub many : (db : Database) (ts : List State) (spare : ℕ) → IsSound db ts spare → length ts ≡ length db.tables
many db ts spare h = sym (length-map ts (λ (t : State). t.declaration)) ∙ ap (λ (l : List TableDecl). length l) h.declared

-- ---- made

made_declared : (ds : List TableDecl) → declarations (map new_table ds) ≡ ds
made_declared [] = refl
made_declared (d ∷ ds) = ap (λ l. d ∷ l) (made_declared ds)

made_empty : (ds : List TableDecl) → contents (map new_table ds) ≡ map (λ d. empty) ds
made_empty [] = refl
made_empty (d ∷ ds) = ap (λ l. empty ∷ l) (made_empty ds)

all_have : (ts : List State) → All (λ (t : State). 0 ≤ t.spare) ts
all_have ts k d lt = omega arith

-- the tables of a database to which nothing was added
pub sound_new : (db : Database) (ts : List State) → ts ≡ map new_table db.tables → session_fits db (declared db) ≡ true → IsSound db ts 0
sound_new db ts e h = record {
  declared = ap declarations e ∙ made_declared db.tables;
  fits = ap (session_fits db) (ap contents e ∙ made_empty db.tables) ∙ h;
  room = all_have ts;
}

pub contents_new : (db : Database) (ts : List State) → ts ≡ map new_table db.tables → contents ts ≡ declared db
contents_new db ts e = ap contents e ∙ made_empty db.tables

-- ---- tables with the same declarations and contents

pub sound_again : (db : Database) (ts us : List State) (spare less : ℕ) → IsSound db ts spare → declarations us ≡ declarations ts → contents us ≡ contents ts → All (λ (t : State). less ≤ t.spare) us → IsSound db us less
sound_again db ts us spare less h d c r = record { declared = d ∙ h.declared; fits = ap (session_fits db) c ∙ h.fits; room = r }

pub sound_copy : (db : Database) (ts us : List State) (spare : ℕ) → IsSound db ts spare → declarations us ≡ declarations ts → contents us ≡ contents ts → IsSound db us 0
sound_copy db ts us spare h d c = sound_again db ts us spare 0 h d c (all_have us)

-- ---- one table changed

room_set : (ts : List State) (n spare less : ℕ) (y : State) → All (λ (t : State). spare ≤ t.spare) ts → less ≤ spare → less ≤ y.spare → All (λ (t : State). less ≤ t.spare) (slice_set ts n y)
room_set ts n spare less y h l k = All-set (λ (t : State). less ≤ t.spare) ts n y k (λ i d lt. omega (arith, h i d lt, l))

pub declared_set : (ts : List State) (n : ℕ) (x y : State) → slice_get ts n ≡ Some x → y.declaration ≡ x.declaration → declarations (slice_set ts n y) ≡ declarations ts
declared_set [] n x y g e = (cc)
declared_set (t ∷ ts) zero x y g e =
    let m : t ≡ x = cc in
    ap (λ d. d ∷ declarations ts) (e ∙ ap (λ (z : State). z.declaration) (sym m))
declared_set (t ∷ ts) (suc n) x y g e = ap (λ ds. t.declaration ∷ ds) (declared_set ts n x y g e)

pub contents_set : (ts : List State) (n : ℕ) (x y : State) → slice_get ts n ≡ Some x → y.content ≡ x.content → contents (slice_set ts n y) ≡ contents ts
contents_set [] n x y g e = (cc)
contents_set (t ∷ ts) zero x y g e =
    let m : t ≡ x = cc in
    ap (λ d. d ∷ contents ts) (e ∙ ap (λ (z : State). z.content) (sym m))
contents_set (t ∷ ts) (suc n) x y g e = ap (λ ds. t.content ∷ ds) (contents_set ts n x y g e)

-- the table at a place, before and after one call of it
pub record Touched (ts : List State) (n : ℕ) (x y : State) : Type 0 where
  pub within : n < length ts
  pub was : x ≡ get_or ts n x
  pub declaration : y.declaration ≡ x.declaration
  pub spare : x.spare ≤ y.spare + 1

pub there : (ts : List State) (n : ℕ) (x : State) → n < length ts → x ≡ get_or ts n x → slice_get ts n ≡ Some x
there ts n x lt e = slice_get_read ts (length ts) n x refl lt e

pub stands_at : (db : Database) (ts : List State) (spare n : ℕ) (x y : State) → IsSound db ts spare → Touched ts n x y → Stands db ts n x
stands_at db ts spare n x y h k = stands db ts spare n x h (there ts n x k.within k.was)

pub sound_set : (db : Database) (ts : List State) (spare n : ℕ) (x y : State) → IsSound db ts spare → 0 < spare → Touched ts n x y → session_fits db (slice_set (contents ts) n y.content) ≡ true → IsSound db (slice_set ts n y) (spare - 1)
sound_set db ts spare n x y h l k f =
    let r : spare ≤ x.spare = subst (λ (z : State). spare ≤ z.spare) (sym k.was) (h.room n x k.within) in
    record {
      declared = declared_set ts n x y (there ts n x k.within k.was) k.declaration ∙ h.declared;
      fits = ap (session_fits db) (map-set (λ (t : State). t.content) ts n y) ∙ f;
      room = room_set ts n spare (spare - 1) y h.room (omega (arith, l)) (omega (arith, l, r, k.spare));
    }

-- ---- a question

pub looked : (db : Database) (ts : List State) (n : ℕ) (x : State) (keys : KeyList) (renew : Bool) (t : ℕ) → Stands db ts n x → ask db (contents ts) (Look n keys renew) t ≡ ((look x.declaration x.content keys renew t).0, slice_set (contents ts) n (look x.declaration x.content keys renew t).1)
unfolding ask
looked db ts n x keys renew t h =
    ap (λ o. look_in o (slice_get (contents ts) n) (contents ts) n keys renew t) h.declared
    ∙ ap (λ o. look_in (Some x.declaration) o (contents ts) n keys renew t) h.held

pub added : (db : Database) (ts : List State) (n : ℕ) (x : State) (e : NewEntry) (t : ℕ) → Stands db ts n x → ask db (contents ts) (Add n e) t ≡ (Done, slice_set (contents ts) n (add x.declaration x.content e t))
unfolding ask
added db ts n x e t h =
    ap (λ o. add_in o (slice_get (contents ts) n) (contents ts) n e t) h.declared
    ∙ ap (λ o. add_in (Some x.declaration) o (contents ts) n e t) h.held

always_done : (o : Option TableDecl) (u : Option Parts) (s : Session) (n : ℕ) (e : NewEntry) (t : ℕ) → (add_in o u s n e t).0 ≡ Done
always_done (Some d) (Some table) s n e t = refl
always_done (Some d) None s n e t = refl
always_done None u s n e t = refl

pub done : (db : Database) (s : Session) (n : ℕ) (e : NewEntry) (t : ℕ) → Done ≡ (ask db s (Add n e) t).0
unfolding ask
done db s n e t = sym (always_done (slice_get db.tables n) (slice_get s n) s n e t)

-- ---- a table that was asked

pub look_sound : FitsStay → (db : Database) (ts : List State) (spare n : ℕ) (x y : State) (keys : KeyList) (renew : Bool) (t : ℕ) → IsSound db ts spare → 0 < spare → question_fits db (Look n keys renew) ≡ true → t < STAMP_END → Touched ts n x y
    → y.content ≡ (look x.declaration x.content keys renew t).1 → IsSound db (slice_set ts n y) (spare - 1)
look_sound law db ts spare n x y keys renew t h l f time k e =
    sound_set db ts spare n x y h l k
    (ap (λ p. session_fits db (slice_set (contents ts) n p)) e
    ∙ ap (λ (r : Answer × Session). session_fits db r.1) (sym (looked db ts n x keys renew t (stands_at db ts spare n x y h k)))
    ∙ (law db (contents ts) (Look n keys renew) t h.fits f time).1)

pub look_answer : (db : Database) (ts : List State) (spare n : ℕ) (x y : State) (keys : KeyList) (renew : Bool) (t : ℕ) → IsSound db ts spare → Touched ts n x y → (look x.declaration x.content keys renew t).0 ≡ (ask db (contents ts) (Look n keys renew) t).0
look_answer db ts spare n x y keys renew t h k = ap (λ (r : Answer × Session). r.0) (sym (looked db ts n x keys renew t (stands_at db ts spare n x y h k)))

pub look_content : (db : Database) (ts : List State) (spare n : ℕ) (x y : State) (keys : KeyList) (renew : Bool) (t : ℕ) → IsSound db ts spare → Touched ts n x y → y.content ≡ (look x.declaration x.content keys renew t).1
    → contents (slice_set ts n y) ≡ (ask db (contents ts) (Look n keys renew) t).1
look_content db ts spare n x y keys renew t h k e =
    map-set (λ (z : State). z.content) ts n y
    ∙ ap (λ p. slice_set (contents ts) n p) e
    ∙ ap (λ (r : Answer × Session). r.1) (sym (looked db ts n x keys renew t (stands_at db ts spare n x y h k)))

pub add_sound : FitsStay → (db : Database) (ts : List State) (spare n : ℕ) (x y : State) (a : NewEntry) (t : ℕ) → IsSound db ts spare → 0 < spare → question_fits db (Add n a) ≡ true → t < STAMP_END → Touched ts n x y
    → y.content ≡ add x.declaration x.content a t → IsSound db (slice_set ts n y) (spare - 1)
add_sound law db ts spare n x y a t h l f time k e =
    sound_set db ts spare n x y h l k
    (ap (λ p. session_fits db (slice_set (contents ts) n p)) e
    ∙ ap (λ (r : Answer × Session). session_fits db r.1) (sym (added db ts n x a t (stands_at db ts spare n x y h k)))
    ∙ (law db (contents ts) (Add n a) t h.fits f time).1)

pub add_content : (db : Database) (ts : List State) (spare n : ℕ) (x y : State) (a : NewEntry) (t : ℕ) → IsSound db ts spare → Touched ts n x y → y.content ≡ add x.declaration x.content a t
    → contents (slice_set ts n y) ≡ (ask db (contents ts) (Add n a) t).1
add_content db ts spare n x y a t h k e =
    map-set (λ (z : State). z.content) ts n y
    ∙ ap (λ p. slice_set (contents ts) n p) e
    ∙ ap (λ (r : Answer × Session). r.1) (sym (added db ts n x a t (stands_at db ts spare n x y h k)))

-- ---- places within

pub within : (db : Database) (ts : List State) (spare n : ℕ) → IsSound db ts spare → n < length db.tables → n < length ts
within db ts spare n h lt = subst (λ k. n < k) (sym (many db ts spare h)) lt
