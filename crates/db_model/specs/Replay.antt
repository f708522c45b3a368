-- A log asked again: in order, from a session, at one moment, whatever the answers are.
use Rattle.std.specs.Prelude.{◌≡◌, ℕ, zero, suc, Bool, true, false, [], ◌∷◌, bytes_eq, ◌==◌, Option, Some, None}
use Rattle.std.specs.Cmp.Lexicographic.{pointwise}
use Rattle.db_model.specs.declared.question.Answer.{Answer}
use Rattle.db_model.specs.declared.question.Answer.TheVariants.{Miss, Hit, Done}
use Rattle.db_model.specs.declared.value.Value.{Value}
use Rattle.db_model.specs.declared.value.Value.TheVariants.{Num, Buf, Proto}
use Rattle.db_model.specs.declared.database.Database.{Database}
use Rattle.db_model.specs.Session.{Session, ask}
use Rattle.db_model.specs.Questions.{Log}

-- the session after all its questions
abbrev pub after : Database → ℕ → Log → Session → Session
after db t [] s = s
after db t (e ∷ l) s = after db t l (ask db s e.0 t).1

-- each question gets its noted answer
abbrev pub Agrees : Database → ℕ → Log → Session → Type 0
Agrees db t [] s = Unit {0}
Agrees db t (e ∷ l) s = ((ask db s e.0 t).0 ≡ e.1) × Agrees db t l (ask db s e.0 t).1

-- ---- the first answer that isn't the noted one

abbrev pub same_value : Value → Value → Bool
same_value (Num m) (Num n) = m == n
same_value (Num m) (Buf t) = false
same_value (Num m) (Proto n) = false
same_value (Buf s) (Num n) = false
same_value (Buf s) (Buf t) = bytes_eq s t
same_value (Buf s) (Proto n) = false
same_value (Proto m) (Num n) = false
same_value (Proto m) (Buf t) = false
same_value (Proto m) (Proto n) = m == n

abbrev pub same_answer : Answer → Answer → Bool
same_answer Miss Miss = true
same_answer Miss (Hit r) = false
same_answer Miss Done = false
same_answer (Hit r) Miss = false
same_answer (Hit r) (Hit s) = pointwise same_value r s
same_answer (Hit r) Done = false
same_answer Done Miss = false
same_answer Done (Hit s) = false
same_answer Done Done = true

-- the place of a pair in the log, its noted answer and the new one
pub record Difference : Type 0 where
  pub place : ℕ
  pub old : Answer
  pub new : Answer

abbrev pub later : Option Difference → Option Difference
later None = None
later (Some d) = Some (record d { place = suc d.place })

abbrev pub differs_by : Bool → Answer → Answer → Option Difference → Option Difference
differs_by true old new rest = later rest
differs_by false old new rest = Some (record { place = zero; old = old; new = new })

abbrev pub differs : Database → ℕ → Log → Session → Option Difference
differs db t [] s = None
differs db t (e ∷ l) s = differs_by (same_answer (ask db s e.0 t).0 e.1) e.1 (ask db s e.0 t).0 (differs db t l (ask db s e.0 t).1)
