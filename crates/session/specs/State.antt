-- What a session and a view are seen as.
use Rattle.std.specs.Prelude.{ℕ, List, refl}
use Rattle.std.specs.Coded.{Coded, code_by, coded×, coded_list, coded_ℕ}
use Rattle.db_model.specs.declared.database.Database.{Database}
use Rattle.db_model.specs.declared.entry.Entry.{Entry}
use Rattle.db_model.specs.Session.{Session, declared}
use Rattle.db_model.specs.Table.{Parts}

-- its database, the content of its tables, and the number of questions for which it has room
pub record State : Type 0 where
  pub database : Database
  pub content : Session
  pub spare : ℕ

-- the session of a database to which nothing was added, without room
abbrev pub new_session : Database → State
new_session db = record { database = db; content = declared db; spare = 0 }

-- a database, and the content of its tables at some moment
pub record View : Type 0 where
  pub database : Database
  pub content : Session

-- what a view of a session keeps
abbrev pub view_of : State → View
view_of s = record { database = s.database; content = s.content }

-- they are told apart by their fields
abbrev pub parts_code : Coded Entry → Coded Parts
parts_code entry =
    code_by (List Entry × List Entry) (coded× (coded_list entry) (coded_list entry)) (λ t. (t.exact, t.masked)) (λ p. record { exact = p.0; masked = p.1 }) (λ _. refl)

abbrev pub view_code : Coded Database → Coded Entry → Coded View
view_code database entry =
    code_by (Database × List Parts) (coded× database (coded_list (parts_code entry))) (λ v. (v.database, v.content)) (λ p. record { database = p.0; content = p.1 }) (λ _. refl)

abbrev pub state_code : Coded Database → Coded Entry → Coded State
state_code database entry =
    code_by (Database × (List Parts × ℕ)) (coded× database (coded× (coded_list (parts_code entry)) coded_ℕ)) (λ s. (s.database, (s.content, s.spare))) (λ p. record { database = p.0; content = p.1.0; spare = p.1.1 }) (λ _. refl)
