-- What a call says that has done a computation over something that answers questions: wholly, or, where memory was refused, up to some prefix of its questions.
use Rattle.std.specs.Prelude.{◌≡◌, ℕ, [], ◌∷◌, ◌++◌, Option, Some, None, Result, Ok, Err}
use Rattle.db_model.specs.declared.database.Database.{Database}
use Rattle.db_model.specs.declared.no_memory.NoMemory.{NoMemory}
use Rattle.db_model.specs.declared.question.Question.{Question}
use Rattle.db_model.specs.declared.question.Answer.{Answer}
use Rattle.db_model.specs.Questions.{Asks, Log, play, Step}
use Rattle.db_model.specs.Replay.{after}
use Rattle.db_model.specs.Session.{Session, ask}

-- a list of pairs that is told grows by a log; one that isn't told stays untold
abbrev pub extended : Option Log → Log → Option Log
extended None m = None
extended (Some l) m = Some (l ++ m)

-- the content and the told list, before and after the questions of a log
pub record Follows (db : Database) (t : ℕ) (m : Log) (s : Session) (l : Option Log) (s' : Session) (l' : Option Log) : Type 0 where
  pub content : s' ≡ after db t m s
  pub told : l' ≡ extended l m

-- an answer is the session's, and its pair is told; a refused one changes nothing
abbrev pub AnswersTo : Database → ℕ → Question → Result Answer NoMemory → Session → Option Log → Session → Option Log → Type 0
AnswersTo db t q (Ok a) s l s' l' = (a ≡ (ask db s q t).0) × Follows db t ((q, a) ∷ []) s l s' l'
AnswersTo db t q (Err e) s l s' l' = Follows db t [] s l s' l'

-- the computation was played, and this is its result
pub record Whole {A : Type 0} (db : Database) (t : ℕ) (x : Asks A) (r : A) (s : Session) (l : Option Log) (s' : Session) (l' : Option Log) : Type 0 where
  pub gave : (play db t x s).result ≡ r
  pub follows : Follows db t (play db t x s).log s l s' l'

-- some first questions of the computation were asked
pub record Begun {A : Type 0} (db : Database) (t : ℕ) (x : Asks A) (s : Session) (l : Option Log) (s' : Session) (l' : Option Log) : Type 0 where
  pub done : Log
  pub rest : Log
  pub is_prefix : (play db t x s).log ≡ done ++ rest
  pub follows : Follows db t done s l s' l'

-- a state of a computation, with what answers it: its content and the list that it tells
pub record Point (S : Type 0) : Type 0 where
  pub held : S
  pub content : Session
  pub told : Option Log

abbrev pub point : {S : Type 0} → S → Session → Option Log → Point S
point z s l = record { held = z; content = s; told = l }

abbrev pub EndsBy : {S A : Type 0} → Database → ℕ → Step S A → Point S → Result A NoMemory → Point S → Type 0
EndsBy db t p m (Ok a) n = Whole db t (p m.held) (a, n.held) m.content m.told n.content n.told
EndsBy db t p m (Err e) n = Begun db t (p m.held) m.content m.told n.content n.told

-- p, begun at m, ends with this outcome at n
pub record Ends {S A : Type 0} (db : Database) (t : ℕ) (p : Step S A) (m : Point S) (o : Result A NoMemory) (n : Point S) : Type 0 where
  pub ends : EndsBy db t p m o n

-- whatever q does from n on, p does from m on
pub record Leads {S A : Type 0} (db : Database) (t : ℕ) (p : Step S A) (m : Point S) (q : Step S A) (n : Point S) : Type 0 where
  pub leads : (o : Result A NoMemory) (k : Point S) → Ends db t q n o k → Ends db t p m o k
