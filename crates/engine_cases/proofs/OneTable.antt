-- What sessions of no table and of one table answer.
use Rattle.std.specs.Prelude.{◌≡◌, ◌≢◌, ℕ, zero, suc, Bool, true, false, ◌&&◌, [], ◌∷◌, slice_get, Option, Some, None}
use Rattle.std.proofs.Common.{refl, ap, sym, subst, ◌∙◌}
use Rattle.db_model.specs.declared.database.Database.{Database}
use Rattle.db_model.specs.declared.database.TableDecl.{TableDecl}
use Rattle.db_model.specs.declared.entry.NewEntry.{NewEntry}
use Rattle.db_model.specs.declared.question.Answer.{Answer}
use Rattle.db_model.specs.declared.question.Answer.TheVariants.{Miss, Done}
use Rattle.db_model.specs.declared.question.Question.{Question}
use Rattle.db_model.specs.declared.question.Question.TheVariants.{Look, Add}
use Rattle.db_model.specs.Fitting.{question_fits, look_fits, look_fits_in, add_fits, add_fits_in, row_declared}
use Rattle.db_model.specs.Session.{Session, look_in, add_in, ask}
use Rattle.db_model.specs.Table.{Parts, KeyList, look, add}

none_at : (n : ℕ) → slice_get {X = Parts} [] n ≡ None
none_at zero = refl
none_at (suc n) = refl

-- a table that the session lacks has no entry
look_absent : (d : Option TableDecl) (s : Session) (n : ℕ) (keys : KeyList) (renew : Bool) (t : ℕ) → look_in d None s n keys renew t ≡ (Miss, s)
look_absent None s n keys renew t = refl
look_absent (Some d) s n keys renew t = refl

add_absent : (d : Option TableDecl) (s : Session) (n : ℕ) (entry : NewEntry) (t : ℕ) → add_in d None s n entry t ≡ (Done, s)
add_absent None s n entry t = refl
add_absent (Some d) s n entry t = refl

pub look_none : (db : Database) (n : ℕ) (keys : KeyList) (renew : Bool) (t : ℕ) → ask db [] (Look n keys renew) t ≡ (Miss, [])
unfolding ask
look_none db n keys renew t = ap (λ o. look_in (slice_get db.tables n) o [] n keys renew t) (none_at n) ∙ look_absent (slice_get db.tables n) [] n keys renew t

pub add_none : (db : Database) (n : ℕ) (entry : NewEntry) (t : ℕ) → ask db [] (Add n entry) t ≡ (Done, [])
unfolding ask
add_none db n entry t = ap (λ o. add_in (slice_get db.tables n) o [] n entry t) (none_at n) ∙ add_absent (slice_get db.tables n) [] n entry t

-- ---- one table

pub look_first : (db : Database) (d : TableDecl) (table : Parts) (keys : KeyList) (renew : Bool) (t : ℕ) → slice_get db.tables 0 ≡ Some d → ask db (table ∷ []) (Look 0 keys renew) t ≡ ((look d table keys renew t).0, (look d table keys renew t).1 ∷ [])
unfolding ask
look_first db d table keys renew t e = ap (λ o. look_in o (Some table) (table ∷ []) 0 keys renew t) e

pub add_first : (db : Database) (d : TableDecl) (table : Parts) (entry : NewEntry) (t : ℕ) → slice_get db.tables 0 ≡ Some d → ask db (table ∷ []) (Add 0 entry) t ≡ (Done, add d table entry t ∷ [])
unfolding ask
add_first db d table entry t e = ap (λ o. add_in o (Some table) (table ∷ []) 0 entry t) e

no_second : (table : Parts) (n : ℕ) → n ≢ 0 → slice_get (table ∷ []) n ≡ None
no_second table zero e = absurd (e refl)
no_second table (suc n) e = none_at n

pub look_other : (db : Database) (table : Parts) (n : ℕ) (keys : KeyList) (renew : Bool) (t : ℕ) → n ≢ 0 → ask db (table ∷ []) (Look n keys renew) t ≡ (Miss, table ∷ [])
unfolding ask
look_other db table n keys renew t e = ap (λ o. look_in (slice_get db.tables n) o (table ∷ []) n keys renew t) (no_second table n e) ∙ look_absent (slice_get db.tables n) (table ∷ []) n keys renew t

pub add_other : (db : Database) (table : Parts) (n : ℕ) (entry : NewEntry) (t : ℕ) → n ≢ 0 → ask db (table ∷ []) (Add n entry) t ≡ (Done, table ∷ [])
unfolding ask
add_other db table n entry t e = ap (λ o. add_in (slice_get db.tables n) o (table ∷ []) n entry t) (no_second table n e) ∙ add_absent (slice_get db.tables n) (table ∷ []) n entry t

-- ---- what fits

pub look_in_first : (db : Database) (d : TableDecl) (keys : KeyList) (renew : Bool) → slice_get db.tables 0 ≡ Some d → question_fits db (Look 0 keys renew) ≡ true → look_fits d keys ≡ true
unfolding question_fits
look_in_first db d keys renew e fits = sym (ap (λ o. look_fits_in o keys) e) ∙ fits

left_true : (a b : Bool) → (a && b) ≡ true → a ≡ true
left_true true b e = refl
left_true false b e = e

pub add_in_first : (db : Database) (d : TableDecl) (entry : NewEntry) → slice_get db.tables 0 ≡ Some d → question_fits db (Add 0 entry) ≡ true → add_fits d entry ≡ true
unfolding question_fits
add_in_first db d entry e fits = left_true (add_fits d entry) (row_declared db entry.row) (sym (ap (λ o. add_fits_in db o entry) e) ∙ fits)

-- ---- a question that is one of these

pub looks_for_nothing : (db : Database) (q : Question) (n : ℕ) (keys : KeyList) (renew : Bool) (t : ℕ) → q ≡ Look n keys renew → ask db [] q t ≡ (Miss, [])
looks_for_nothing db q n keys renew t is = ap (λ x. ask db [] x t) is ∙ look_none db n keys renew t

pub adds_nothing : (db : Database) (q : Question) (n : ℕ) (entry : NewEntry) (t : ℕ) → q ≡ Add n entry → ask db [] q t ≡ (Done, [])
adds_nothing db q n entry t is = ap (λ x. ask db [] x t) is ∙ add_none db n entry t

pub look_fits_first : (db : Database) (d : TableDecl) (q : Question) (n : ℕ) (keys : KeyList) (renew : Bool) → slice_get db.tables 0 ≡ Some d → question_fits db q ≡ true → q ≡ Look n keys renew → n ≡ 0 → look_fits d keys ≡ true
look_fits_first db d q n keys renew e fits is first = look_in_first db d keys renew e (subst (λ m. question_fits db (Look m keys renew) ≡ true) first (subst (λ x. question_fits db x ≡ true) is fits))

pub add_fits_first : (db : Database) (d : TableDecl) (q : Question) (n : ℕ) (entry : NewEntry) → slice_get db.tables 0 ≡ Some d → question_fits db q ≡ true → q ≡ Add n entry → n ≡ 0 → add_fits d entry ≡ true
add_fits_first db d q n entry e fits is first = add_in_first db d entry e (subst (λ m. question_fits db (Add m entry) ≡ true) first (subst (λ x. question_fits db x ≡ true) is fits))

pub looks : (db : Database) (d : TableDecl) (table after : Parts) (q : Question) (n : ℕ) (keys : KeyList) (renew : Bool) (t : ℕ) (answer : Answer) → slice_get db.tables 0 ≡ Some d → q ≡ Look n keys renew → n ≡ 0 → answer ≡ (look d table keys renew t).0 → after ≡ (look d table keys renew t).1 → ask db (table ∷ []) q t ≡ (answer, after ∷ [])
looks db d table after q n keys renew t answer e is first gave left =
    ap (λ x. ask db (table ∷ []) x t) is ∙ (ap (λ m. ask db (table ∷ []) (Look m keys renew) t) first ∙ (look_first db d table keys renew t e ∙ (ap (λ (a : Answer). (a, (look d table keys renew t).1 ∷ [])) (sym gave) ∙ ap (λ (p : Parts). (answer, p ∷ [])) (sym left))))

pub looks_elsewhere : (db : Database) (table : Parts) (q : Question) (n : ℕ) (keys : KeyList) (renew : Bool) (t : ℕ) → q ≡ Look n keys renew → n ≢ 0 → ask db (table ∷ []) q t ≡ (Miss, table ∷ [])
looks_elsewhere db table q n keys renew t is other = ap (λ x. ask db (table ∷ []) x t) is ∙ look_other db table n keys renew t other

pub adds : (db : Database) (d : TableDecl) (table after : Parts) (q : Question) (n : ℕ) (entry : NewEntry) (t : ℕ) → slice_get db.tables 0 ≡ Some d → q ≡ Add n entry → n ≡ 0 → after ≡ add d table entry t → ask db (table ∷ []) q t ≡ (Done, after ∷ [])
adds db d table after q n entry t e is first left =
    ap (λ x. ask db (table ∷ []) x t) is ∙ (ap (λ m. ask db (table ∷ []) (Add m entry) t) first ∙ (add_first db d table entry t e ∙ ap (λ (p : Parts). (Done, p ∷ [])) (sym left)))

pub adds_elsewhere : (db : Database) (table : Parts) (q : Question) (n : ℕ) (entry : NewEntry) (t : ℕ) → q ≡ Add n entry → n ≢ 0 → ask db (table ∷ []) q t ≡ (Done, table ∷ [])
adds_elsewhere db table q n entry t is other = ap (λ x. ask db (table ∷ []) x t) is ∙ add_other db table n entry t other
