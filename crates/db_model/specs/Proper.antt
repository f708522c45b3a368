-- What a computation may ask: questions that fit, and no more than so many, whatever it is answered.
use Rattle.std.specs.Prelude.{◌≡◌, ℕ, zero, suc, ◌+◌, true, length}
use Rattle.db_model.specs.declared.database.Database.{Database}
use Rattle.db_model.specs.declared.env.Env.{Env}
use Rattle.db_model.specs.declared.env.Frame.{Frame}
use Rattle.db_model.specs.declared.question.Answer.{Answer}
use Rattle.db_model.specs.Fitting.{question_fits, log_fits}
use Rattle.db_model.specs.Questions.{Asks, Gives, Asking, Played, Step}

-- on each way each question fits and takes one of n, and P holds of the result and of how many are left then
abbrev pub Proper : {A : Type 0} → Database → (A → ℕ → Type 0) → ℕ → Asks A → Type 0
Proper db P n (Gives a) = P a n
Proper db P zero (Asking q k) = ⊥
Proper db P (suc n) (Asking q k) = (question_fits db q ≡ true) × ((a : Answer) → Proper db P n (k a))

-- so many questions are left in the state after it, and P holds of the result
abbrev pub Leaves : {S A : Type 0} → (S → ℕ) → (A → Type 0) → A × S → ℕ → Type 0
Leaves left P r n = (left r.1 ≡ n) × P r.0

-- a step that takes each of its questions from those that its state has left
abbrev pub TakesFrom : {S A : Type 0} → Database → (S → ℕ) → (A → Type 0) → Step S A → Type 0
TakesFrom db left P p = (z : _) → Proper db (Leaves left P) (left z) (p z)

-- nothing more is said of a result
abbrev pub Any : {A : Type 0} → A → Type 0
Any a = Unit {0}

abbrev pub AnyEnd : {A : Type 0} → A → ℕ → Type 0
AnyEnd a n = Unit {0}

-- the questions that are left
abbrev pub left_in : Env → ℕ
left_in z = z.questions

abbrev pub left_in_frame : Frame → ℕ
left_in_frame z = z.env.questions

-- what such a computation gives over any session: P holds of the result and of how many questions are left, and each question that was asked fits
pub record PlaysProper {A : Type 0} (db : Database) (P : A → ℕ → Type 0) (n : ℕ) (p : Played A) : Type 0 where
  pub left : ℕ
  pub gave : P p.result left
  pub taken : left + length p.log ≡ n
  pub log : log_fits db p.log ≡ true
