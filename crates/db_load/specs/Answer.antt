-- What an answer of the loader says of the text.
use Rattle.std.specs.Prelude.{◌≡◌, ◌⊎◌, ℕ, List, Some, None, Result, Ok, Err}
use Rattle.db_model.specs.declared.database.Database.{Database}
use Rattle.db_text.specs.declared.node.Node.{Node}
use Rattle.db_text.specs.Refusal.{IsText, IsRefused}
use Rattle.db_model.specs.declared.fault.DbFail.{DbFail}
use Rattle.db_model.specs.declared.fault.DbFail.TheVariants as fail
use Rattle.db_load.specs.Faults.{refusal}
use Rattle.db_load.specs.Whole.{database_of}

-- what becomes of a top element: the database that it means, where no fault stands; else its fault
abbrev pub Judges : Node → Result Database DbFail → Type 0
Judges n (Ok db) = (refusal n ≡ None) × (db ≡ database_of n)
Judges n (Err (fail.Fault line code)) = refusal n ≡ Some (record { line = line; code = code })
Judges n (Err fail.NoMemory) = Unit {0}

-- the text has this top element, and this becomes of it
pub record IsJudged (bytes : List ℕ) (answer : Result Database DbFail) : Type 0 where
  pub top : Node
  pub text : IsText bytes top
  pub judged : Judges top answer

-- a database is that of the text, and a fault is that of the text or of its elements; want of memory is free
abbrev pub Answers : List ℕ → Result Database DbFail → Type 0
Answers bytes (Ok db) = IsJudged bytes (Ok db)
Answers bytes (Err (fail.Fault line code)) = IsRefused bytes line code ⊎ IsJudged bytes (Err (fail.Fault line code))
Answers bytes (Err fail.NoMemory) = Unit {0}
