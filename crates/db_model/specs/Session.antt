-- A session is one table for each declaration, in the order of declaration. It answers a question, and is another one after it.
use Rattle.std.specs.Prelude.{ℕ, Bool, List, map, slice_get, slice_set, Option, Some, None}
use Rattle.db_model.specs.declared.entry.NewEntry.{NewEntry}
use Rattle.db_model.specs.declared.question.Question.{Question}
use Rattle.db_model.specs.declared.question.Question.TheVariants.{Look, Add}
use Rattle.db_model.specs.declared.question.Answer.{Answer}
use Rattle.db_model.specs.declared.question.Answer.TheVariants.{Miss, Done}
use Rattle.db_model.specs.declared.database.Database.{Database}
use Rattle.db_model.specs.declared.database.TableDecl.{TableDecl}
use Rattle.db_model.specs.Table.{Parts, KeyList, empty, look, add}

abbrev pub Session : Type 0
Session = List Parts

-- the session of a database to which nothing was added
abbrev pub declared : Database → Session
declared db = map (λ d. empty) db.tables

abbrev pub set_table : Session → ℕ → Answer × Parts → Answer × Session
set_table s n r = (r.0, slice_set s n r.1)

-- a table that isn't declared has no entry
abbrev pub look_in : Option TableDecl → Option Parts → Session → ℕ → KeyList → Bool → ℕ → Answer × Session
look_in (Some d) (Some table) s n keys renew t = set_table s n (look d table keys renew t)
look_in (Some d) None s n keys renew t = (Miss, s)
look_in None table s n keys renew t = (Miss, s)

abbrev pub add_in : Option TableDecl → Option Parts → Session → ℕ → NewEntry → ℕ → Answer × Session
add_in (Some d) (Some table) s n e t = set_table s n (Done, add d table e t)
add_in (Some d) None s n e t = (Done, s)
add_in None table s n e t = (Done, s)

-- the answer to a question at a moment, and the session after it
unfoldable pub ask : Database → Session → Question → ℕ → Answer × Session
ask db s (Look n keys renew) t = look_in (slice_get db.tables n) (slice_get s n) s n keys renew t
ask db s (Add n e) t = add_in (slice_get db.tables n) (slice_get s n) s n e t
