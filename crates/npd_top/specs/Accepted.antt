-- What the text of a database is: accepted, or refused.
use Rattle.std.specs.Prelude.{◌≡◌, ◌⊎◌, ℕ, List, Some, None, Ok, Err}
use Rattle.db_model.specs.declared.database.Database.{Database}
use Rattle.db_model.specs.declared.fault.DbFail.TheVariants as fail
use Rattle.db_model.specs.Objection.{objection}
use Rattle.db_load.specs.Answer.{Answers}

-- the text is that of this database, in which no fault stands
pub record IsAccepted (text : List ℕ) (db : Database) : Type 0 where
  pub loaded : Answers text (Ok db)
  pub accepted : objection db ≡ None

-- the text is that of a database in which this fault is the first
pub record HasObjection (text : List ℕ) (line code : ℕ) : Type 0 where
  pub db : Database
  pub loaded : Answers text (Ok db)
  pub objected : objection db ≡ Some (record { line = line; code = code })

-- the text is refused with this line and this code: by its own grammar and the shape of its elements, or else by what
-- these say of one another
abbrev pub IsRefused : List ℕ → ℕ → ℕ → Type 0
IsRefused text line code = Answers text (Err (fail.Fault line code)) ⊎ HasObjection text line code

-- a database that is accepted
pub record HasAccepted (text : List ℕ) : Type 0 where
  pub db : Database
  pub is : IsAccepted text db
