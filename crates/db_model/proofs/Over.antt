-- How computations over something that answers questions are put together.
use Rattle.std.specs.Prelude.{◌≡◌, ℕ, [], ◌∷◌, ◌++◌, Option, Some, None, Result, Ok, Err}
use Rattle.std.proofs.Common.{refl, sym, ap, subst, ◌∙◌, append_assoc, append-nil}
use Rattle.db_model.specs.declared.database.Database.{Database}
use Rattle.db_model.specs.declared.env.Env.{Env}
use Rattle.db_model.specs.declared.env.Frame.{Frame}
use Rattle.db_model.specs.declared.no_memory.NoMemory.{NoMemory}
use Rattle.db_model.specs.declared.question.Question.{Question}
use Rattle.db_model.specs.declared.question.Answer.{Answer}
use Rattle.db_model.specs.declared.tree.Reason.{Reason}
use Rattle.db_model.specs.Expression.{Eval}
use Rattle.db_model.specs.Runs.{within}
use Rattle.db_model.specs.Over.{extended, Follows, AnswersTo, Whole, Begun, Point, point, EndsBy, Ends, Leads}
use Rattle.db_model.specs.Questions.{Asks, Gives, Asking, and_then, Log, Played, play, Step, pure, ◌then◌}
use Rattle.db_model.specs.Replay.{after}
use Rattle.db_model.specs.Session.{Session, ask}
use Rattle.db_model.proofs.Play.{play_then, session_after, after_append}

-- ---- logs one after another

pub extended_twice : (l : Option Log) (m n : Log) → extended (extended l m) n ≡ extended l (m ++ n)
extended_twice None m n = refl
extended_twice (Some l) m n = ap Some (append_assoc l m n)

pub extended_none : (l : Option Log) → l ≡ extended l []
extended_none None = refl
extended_none (Some l) = ap Some (sym (append-nil l))

pub follows_none : (db : Database) (t : ℕ) (s : Session) (l : Option Log) → Follows db t [] s l s l
follows_none db t s l = record { content = refl; told = extended_none l }

pub follows_then : (db : Database) (t : ℕ) (m n : Log) (s : Session) (l : Option Log) (s' : Session) (l' : Option Log) (s'' : Session) (l'' : Option Log) → Follows db t m s l s' l' → Follows db t n s' l' s'' l'' → Follows db t (m ++ n) s l s'' l''
follows_then db t m n s l s' l' s'' l'' h k = record {
  content = k.content ∙ ap (after db t n) h.content ∙ sym (after_append db t m n s);
  told = k.told ∙ ap (λ (x : Option Log). extended x n) h.told ∙ extended_twice l m n;
}

-- ---- computations one after another

module _ {A B : Type 0} (db : Database) (t : ℕ) (x : Asks A) (f : A → Asks B) where
  -- both wholly
  pub whole_then : (a : A) (b : B) (s : Session) (l : Option Log) (s' : Session) (l' : Option Log) (s'' : Session) (l'' : Option Log) → Whole db t x a s l s' l' → Whole db t (f a) b s' l' s'' l'' → Whole db t (and_then x f) b s l s'' l''
  whole_then a b s l s' l' s'' l'' h k =
      let next : play db t (f (play db t x s).result) (play db t x s).session ≡ play db t (f a) s' = ap (λ c. play db t (f c) (play db t x s).session) h.gave ∙ ap (play db t (f a)) (session_after db t x s ∙ sym h.follows.content) in
      let e = play_then db t x f s in
      record {
        gave = ap (λ (p : Played B). p.result) (e ∙ ap (λ (r : Played B). record r { log = (play db t x s).log ++ r.log }) next) ∙ k.gave;
        follows = subst (λ m. Follows db t m s l s'' l'') (sym (ap (λ (p : Played B). p.log) (e ∙ ap (λ (r : Played B). record r { log = (play db t x s).log ++ r.log }) next)))
            (follows_then db t (play db t x s).log (play db t (f a) s').log s l s' l' s'' l'' h.follows k.follows);
      }

  -- the first one begun
  pub begun_first : (s : Session) (l : Option Log) (s' : Session) (l' : Option Log) → Begun db t x s l s' l' → Begun db t (and_then x f) s l s' l'
  begun_first s l s' l' h =
      let after_it = (play db t (f (play db t x s).result) (play db t x s).session).log in
      record {
        done = h.done;
        rest = h.rest ++ after_it;
        is_prefix = ap (λ (p : Played B). p.log) (play_then db t x f s) ∙ ap (λ (m : Log). m ++ after_it) h.is_prefix ∙ append_assoc h.done h.rest after_it;
        follows = h.follows;
      }

  -- the first one wholly, and the second begun
  pub begun_rest : (a : A) (s : Session) (l : Option Log) (s' : Session) (l' : Option Log) (s'' : Session) (l'' : Option Log) → Whole db t x a s l s' l' → Begun db t (f a) s' l' s'' l'' → Begun db t (and_then x f) s l s'' l''
  begun_rest a s l s' l' s'' l'' h k =
      let next : play db t (f (play db t x s).result) (play db t x s).session ≡ play db t (f a) s' = ap (λ c. play db t (f c) (play db t x s).session) h.gave ∙ ap (play db t (f a)) (session_after db t x s ∙ sym h.follows.content) in
      let first = (play db t x s).log in
      record {
        done = first ++ k.done;
        rest = k.rest;
        is_prefix = ap (λ (p : Played B). p.log) (play_then db t x f s ∙ ap (λ (r : Played B). record r { log = first ++ r.log }) next) ∙ ap (λ (m : Log). first ++ m) k.is_prefix ∙ sym (append_assoc first k.done k.rest);
        follows = follows_then db t first k.done s l s' l' s'' l'' h.follows k.follows;
      }

-- ---- endings

module _ {S A : Type 0} (db : Database) (t : ℕ) where
  -- a result that is there asks nothing
  pub ends_pure : (a : A) (z : S) (s : Session) (l : Option Log) → Ends {S = S} {A = A} db t (pure a) (point z s l) (Ok a) (point z s l)
  ends_pure a z s l = record { ends = record { gave = refl; follows = follows_none db t s l } }

  -- a computation that gives its result at this state
  pub ends_gives : (p : Step S A) (z z' : S) (a : A) (s : Session) (l : Option Log) → p z ≡ Gives (a, z') → Ends db t p (point z s l) (Ok a) (point z' s l)
  ends_gives p z z' a s l e =
      record { ends = subst (λ x. Whole db t x (a, z') s l s l) (sym e) (record { gave = refl; follows = follows_none db t s l }) }

  -- memory refused before anything was asked
  pub ends_refused : (p : Step S A) (e : NoMemory) (z z' : S) (s : Session) (l : Option Log) → Ends db t p (point z s l) (Err e) (point z' s l)
  ends_refused p e z z' s l = record { ends = record { done = []; rest = (play db t (p z) s).log; is_prefix = refl; follows = follows_none db t s l } }

  -- one question, from what it was answered
  pub ends_asked : (p : Step S A) (q : Question) (k : Answer → Asks (A × S)) (a : Answer) (r : A) (z z' : S) (s : Session) (l : Option Log) (s' : Session) (l' : Option Log)
      → p z ≡ Asking q k → k a ≡ Gives (r, z') → AnswersTo db t q (Ok a) s l s' l' → Ends db t p (point z s l) (Ok r) (point z' s' l')
  ends_asked p q k a r z z' s l s' l' e g h =
      let x : play db t (Asking q k) s ≡ record { result = (r, z'); session = (ask db s q t).1; log = (q, (ask db s q t).0) ∷ [] } =
      subst (λ b. play db t (Asking q k) s ≡ record { result = (r, z'); session = (ask db s q t).1; log = (q, (ask db s q t).0) ∷ [] }) h.0
      (ap (λ (y : Asks (A × S)). record (play db t y (ask db s q t).1) { log = (q, (ask db s q t).0) ∷ (play db t y (ask db s q t).1).log }) (ap k (sym h.0) ∙ g)) in
      record {
        ends = subst (λ y. Whole db t y (r, z') s l s' l') (sym e) (record {
          gave = ap (λ (y : Played (A × S)). y.result) x;
          follows = subst (λ m. Follows db t m s l s' l') (ap (λ b. (q, b) ∷ []) h.0 ∙ sym (ap (λ (y : Played (A × S)). y.log) x)) h.1;
        });
      }

  -- a question that was refused memory
  pub ends_unasked : (p : Step S A) (q : Question) (e : NoMemory) (z z' : S) (s : Session) (l : Option Log) (s' : Session) (l' : Option Log)
      → AnswersTo db t q (Err e) s l s' l' → Ends db t p (point z s l) (Err e) (point z' s' l')
  ends_unasked p q e z z' s l s' l' h = record { ends = record { done = []; rest = (play db t (p z) s).log; is_prefix = refl; follows = h } }

  -- ---- what leads where

  pub leads_here : (p : Step S A) (m : Point S) → Leads db t p m p m
  leads_here p m = record { leads = λ o k h. h }

  pub leads_on : {p q r : Step S A} {m n k : Point S} → Leads db t p m q n → Leads db t q n r k → Leads db t p m r k
  leads_on h g = record { leads = λ o k e. h.leads o k (g.leads o k e) }

  -- two computations that are the same one at a state
  pub leads_same : (p q : Step S A) (m : Point S) → p m.held ≡ q m.held → Leads db t p m q m
  leads_same p q m e = record { leads = λ o k h. record { ends = same o k h.ends } }
    where
      same : (o : Result A NoMemory) (k : Point S) → EndsBy db t q m o k → EndsBy db t p m o k
      same (Ok a) k h = subst (λ x. Whole db t x (a, k.held) m.content m.told k.content k.told) (sym e) h
      same (Err f) k h = subst (λ x. Begun db t x m.content m.told k.content k.told) (sym e) h

  -- to another computation at another state, without a question
  pub leads_move : (p q : Step S A) (z z' : S) (s : Session) (l : Option Log) → p z ≡ q z' → Leads db t p (point z s l) q (point z' s l)
  leads_move p q z z' s l e = record { leads = λ o k h. record { ends = same o k h.ends } }
    where
      same : (o : Result A NoMemory) (k : Point S) → EndsBy db t q (point z' s l) o k → EndsBy db t p (point z s l) o k
      same (Ok a) k h = subst (λ x. Whole db t x (a, k.held) s l k.content k.told) (sym e) h
      same (Err f) k h = subst (λ x. Begun db t x s l k.content k.told) (sym e) h

module _ {S A B : Type 0} (db : Database) (t : ℕ) (p : Step S A) (f : A → Step S B) where
  -- after the first part, the rest is what follows its result
  pub leads_then : (m n : Point S) (a : A) → Ends db t p m (Ok a) n → Leads db t (p then f) m (f a) n
  leads_then m n a h = record { leads = λ o k g. record { ends = both o k g.ends } }
    where
      both : (o : Result B NoMemory) (k : Point S) → EndsBy db t (f a) n o k → EndsBy db t (p then f) m o k
      both (Ok b) k g = whole_then db t (p m.held) (λ r. f r.0 r.1) (a, n.held) (b, k.held) m.content m.told n.content n.told k.content k.told h.ends g
      both (Err e) k g = begun_rest db t (p m.held) (λ r. f r.0 r.1) (a, n.held) m.content m.told n.content n.told k.content k.told h.ends g

  -- memory refused in the first part
  pub ends_first : (m n : Point S) (e : NoMemory) → Ends db t p m (Err e) n → Ends {S = S} {A = B} db t (p then f) m (Err e) n
  ends_first m n e h = record { ends = begun_first db t (p m.held) (λ r. f r.0 r.1) m.content m.told n.content n.told h.ends }

-- ---- evaluations on the frame that holds their state

module _ {A : Type 0} (db : Database) (t : ℕ) (p : Eval A) (z : Frame) where
  pub within_ends : (r : Result A Reason) (e : Env) (s : Session) (l : Option Log) (s' : Session) (l' : Option Log)
      → Ends db t p (point z.env s l) (Ok r) (point e s' l') → Ends db t (within p) (point z s l) (Ok r) (point (record z { env = e }) s' l')
  within_ends r e s l s' l' h =
      record { ends = whole_then db t (p z.env) (λ (x : Result A Reason × Env). Gives (x.0, record z { env = x.1 })) (r, e) (r, record z { env = e }) s l s' l' s' l' h.ends (record { gave = refl; follows = follows_none db t s' l' }) }

  pub within_refused : (f : NoMemory) (e : Env) (z' : Frame) (s : Session) (l : Option Log) (s' : Session) (l' : Option Log)
      → Ends db t p (point z.env s l) (Err f) (point e s' l') → Ends db t (within p) (point z s l) (Err f) (point z' s' l')
  within_refused f e z' s l s' l' h =
      record { ends = begun_first db t (p z.env) (λ (x : Result A Reason × Env). Gives (x.0, record z { env = x.1 })) s l s' l' h.ends }
