-- What a session keeps of its tables.
use Rattle.std.specs.Prelude.{◌≡◌, ℕ, ◌≤◌, true, List, map}
use Rattle.std.specs.List.{All}
use Rattle.db_model.specs.declared.database.Database.{Database}
use Rattle.db_model.specs.declared.database.TableDecl.{TableDecl}
use Rattle.db_model.specs.Fitting.{session_fits}
use Rattle.db_model.specs.Session.{Session}
use Rattle.table_list.specs.State.{State}

abbrev pub declarations : List State → List TableDecl
declarations ts = map (λ t. t.declaration) ts

abbrev pub contents : List State → Session
contents ts = map (λ t. t.content) ts

-- one table for each declaration, in order; what they hold fits the database; and each has room for so many calls
pub record IsSound (db : Database) (ts : List State) (spare : ℕ) : Type 0 where
  pub declared : declarations ts ≡ db.tables
  pub fits : session_fits db (contents ts) ≡ true
  pub room : All (λ (t : State). spare ≤ t.spare) ts
