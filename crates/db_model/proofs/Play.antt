-- Laws of computations that ask: how they are joined, replayed and told.
use Rattle.std.specs.Prelude.{◌≡◌, ℕ, [], ◌∷◌, ◌++◌}
use Rattle.std.proofs.Common.{refl, sym, ap, subst, ◌∙◌, append_assoc}
use Rattle.db_model.specs.declared.database.Database.{Database}
use Rattle.db_model.specs.Questions.{Asks, Gives, Asking, and_then, Log, Played, noted, play, Step, ◌then◌, State, from}
use Rattle.db_model.specs.Replay.{after, Agrees}
use Rattle.db_model.specs.Session.{Session, ask}

-- a play whose log stands behind that of another
abbrev pub joined : {A B : Type 0} → Played A → Played B → Played B
joined p r = record r { log = p.log ++ r.log }

-- one computation after the other is played one after the other
pub play_then : {A B : Type 0} (db : Database) (t : ℕ) (x : Asks A) (f : A → Asks B) (s : Session) → play db t (and_then x f) s ≡ joined (play db t x s) (play db t (f (play db t x s).result) (play db t x s).session)
play_then db t (Gives a) f s = refl
play_then db t (Asking q k) f s = ap (noted q (ask db s q t).0) (play_then db t (k (ask db s q t).0) f (ask db s q t).1)

-- the session of a play is the one that its log leaves
pub session_after : {A : Type 0} (db : Database) (t : ℕ) (x : Asks A) (s : Session) → (play db t x s).session ≡ after db t (play db t x s).log s
session_after db t (Gives a) s = refl
session_after db t (Asking q k) s = session_after db t (k (ask db s q t).0) (ask db s q t).1

-- a play's log agrees with the session from which it was played
pub agrees_here : {A : Type 0} (db : Database) (t : ℕ) (x : Asks A) (s : Session) → Agrees db t (play db t x s).log s
agrees_here db t (Gives a) s = tt
agrees_here db t (Asking q k) s = (refl, agrees_here db t (k (ask db s q t).0) (ask db s q t).1)

pub after_append : (db : Database) (t : ℕ) (l m : Log) (s : Session) → after db t (l ++ m) s ≡ after db t m (after db t l s)
after_append db t [] m s = refl
after_append db t (e ∷ l) m s = after_append db t l m (ask db s e.0 t).1

-- a log in two parts agrees exactly where each part does in its place
pub agrees_append : (db : Database) (t : ℕ) (l m : Log) (s : Session) → Agrees db t l s → Agrees db t m (after db t l s) → Agrees db t (l ++ m) s
agrees_append db t [] m s h k = k
agrees_append db t (e ∷ l) m s h k = (h.0, agrees_append db t l m (ask db s e.0 t).1 h.1 k)

pub agrees_first : (db : Database) (t : ℕ) (l m : Log) (s : Session) → Agrees db t (l ++ m) s → Agrees db t l s
agrees_first db t [] m s h = tt
agrees_first db t (e ∷ l) m s h = (h.0, agrees_first db t l m (ask db s e.0 t).1 h.1)

pub agrees_rest : (db : Database) (t : ℕ) (l m : Log) (s : Session) → Agrees db t (l ++ m) s → Agrees db t m (after db t l s)
agrees_rest db t [] m s h = h
agrees_rest db t (e ∷ l) m s h = agrees_rest db t l m (ask db s e.0 t).1 h.1

-- a play with the session that its log leaves from another one
abbrev pub replayed : {A : Type 0} → Database → ℕ → Played A → Session → Played A
replayed db t p s = record p { session = after db t p.log s }

-- unchanged answers, unchanged computation
pub unchanged : {A : Type 0} (db : Database) (t : ℕ) (x : Asks A) (s s' : Session) → Agrees db t (play db t x s).log s' → play db t x s' ≡ replayed db t (play db t x s) s'
unchanged db t (Gives a) s s' h = refl
unchanged db t (Asking q k) s s' h =
    let a = (ask db s q t).0 in
    let next = (ask db s' q t).1 in
    subst (λ b. noted q b (play db t (k b) next) ≡ replayed db t (noted q a (play db t (k a) (ask db s q t).1)) s') (sym h.0)
    (ap (noted q a) (unchanged db t (k a) (ask db s q t).1 next h.1))

-- ---- computations on whole states

pub from_then : {S A B : Type 0} (db : Database) (t : ℕ) (p : Step S A) (f : A → Step S B) (z : State S) → from db t (p then f) z ≡ from db t (f (from db t p z).0) (from db t p z).1
from_then db t p f z =
    let x = play db t (p z.held) z.session in
    let y = play db t (f x.result.0 x.result.1) x.session in
    ap (λ (r : Played _). (r.result.0, record { held = r.result.1; session = r.session; log = z.log ++ r.log })) (play_then db t (p z.held) (λ r. f r.0 r.1) z.session)
    ∙ ap (λ (l : Log). (y.result.0, record { held = y.result.1; session = y.session; log = l })) (sym (append_assoc z.log x.log y.log))
