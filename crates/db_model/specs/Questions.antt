-- What a decoding asks is left open: a computation is its result, or a question and what follows each answer. Played over a session it gives a result, the session after it and the pairs of question and answer. So no definition can look at a session but by a question, and none can drop a pair.
use Rattle.std.specs.Prelude.{ℕ, List, [], ◌∷◌, ◌++◌, Result, Ok, Err}
use Rattle.db_model.specs.declared.question.Question.{Question}
use Rattle.db_model.specs.declared.question.Answer.{Answer}
use Rattle.db_model.specs.declared.database.Database.{Database}
use Rattle.db_model.specs.Session.{Session, ask}

pub data Asks (A : Type 0) : Type 0 where
  Gives : A → Asks A
  Asking : Question → (Answer → Asks A) → Asks A

-- one computation, and then another from its result
abbrev pub and_then : {A B : Type 0} → Asks A → (A → Asks B) → Asks B
and_then (Gives a) f = f a
and_then (Asking q k) f = Asking q (λ r. and_then (k r) f)

-- the pairs that were asked and answered, in order
abbrev pub Log : Type 0
Log = List (Question × Answer)

pub record Played (A : Type 0) : Type 0 where
  pub result : A
  pub session : Session
  pub log : Log

-- the same, with one pair before its log
abbrev pub noted : {A : Type 0} → Question → Answer → Played A → Played A
noted q a p = record p { log = (q, a) ∷ p.log }

-- each question is answered by the session that it finds, at one moment
abbrev pub play : {A : Type 0} → Database → ℕ → Asks A → Session → Played A
play db t (Gives a) s = record { result = a; session = s; log = [] }
play db t (Asking q k) s = noted q (ask db s q t).0 (play db t (k (ask db s q t).0) (ask db s q t).1)

-- ---- computations that also change a state

abbrev pub Step : Type 0 → Type 0 → Type 0
Step S A = S → Asks (A × S)

-- a result, and nothing changes
abbrev pub pure : {S A : Type 0} → A → Step S A
pure a = λ z. Gives (a, z)

infixl 10 ◌then◌
abbrev pub ◌then◌ : {S A B : Type 0} → Step S A → (A → Step S B) → Step S B
p then f = λ z. and_then (p z) (λ r. f r.0 r.1)

-- go on with a value; the first reason is the reason of the whole
abbrev pub on_ok : {S A B E : Type 0} → (A → Step S (Result B E)) → Result A E → Step S (Result B E)
on_ok f (Ok a) = f a
on_ok f (Err e) = pure (Err e)

-- a whole state: what the definitions work on, with the session and the pairs so far
pub record State (S : Type 0) : Type 0 where
  pub held : S
  pub session : Session
  pub log : Log

-- a computation on whole states: its questions are answered by the session, and their pairs go behind the log
abbrev pub from_play : {S A : Type 0} → Log → Played (A × S) → A × State S
from_play log p = (p.result.0, record { held = p.result.1; session = p.session; log = log ++ p.log })

abbrev pub from : {S A : Type 0} → Database → ℕ → Step S A → State S → A × State S
from db t f z = from_play z.log (play db t (f z.held) z.session)
