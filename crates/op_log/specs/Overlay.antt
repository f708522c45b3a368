-- What an overlay is, and what it asks a session.
use Rattle.std.specs.Prelude.{◌≡◌, ℕ, List, Result, Ok, Err, refl}
use Rattle.std.specs.Coded.{Coded, code_by, coded×, coded_list}
use Rattle.db_model.specs.declared.database.Database.{Database}
use Rattle.db_model.specs.declared.entry.Entry.{Entry}
use Rattle.db_model.specs.declared.no_memory.NoMemory.{NoMemory}
use Rattle.db_model.specs.declared.question.Question.{Question}
use Rattle.db_model.specs.declared.question.Answer.{Answer}
use Rattle.db_model.specs.Questions.{Log}
use Rattle.db_model.specs.Session.{Session, ask}
use Rattle.db_model.specs.Table.{Parts}
use Rattle.session.specs.State.{parts_code}

-- the database and the content of its session, and the pairs that it noted
pub record Noting : Type 0 where
  pub database : Database
  pub content : Session
  pub log : Log

-- it is told apart by its fields
abbrev pub noting_code : Coded Database → Coded Entry → Coded Question → Coded Answer → Coded Noting
noting_code database entry question answer =
    code_by (Database × (List Parts × Log)) (coded× database (coded× (coded_list (parts_code entry)) (coded_list (coded× question answer)))) (λ o. (o.database, (o.content, o.log))) (λ p. record { database = p.0; content = p.1.0; log = p.1.1 }) (λ _. refl)

-- this answer, twice
abbrev pub AreAnswers : Answer → Answer × Answer → Type 0
AreAnswers a r = (r.0 ≡ a) × (r.1 ≡ a)

-- the answer of a session, twice, and the session after it; a refusal changes nothing
abbrev pub Twice : Database → ℕ → Question → Session → Result (Answer × Answer) NoMemory → Session → Type 0
Twice db t q s (Ok r) s' = AreAnswers (ask db s q t).0 r × (s' ≡ (ask db s q t).1)
Twice db t q s (Err e) s' = s' ≡ s
