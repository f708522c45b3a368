-- A state of decoding that fits a database, and what holds of a computation's result where the answers that it gets fit.
use Rattle.std.specs.Prelude.{◌≡◌, Bool, true, false, ◌&&◌, List, [], ◌∷◌, slice_get, Option, Some, None, Result, Ok, Err}
use Rattle.db_model.specs.declared.database.Database.{Database}
use Rattle.db_model.specs.declared.database.TableDecl.{TableDecl}
use Rattle.db_model.specs.declared.database.VarDecl.{VarDecl}
use Rattle.db_model.specs.declared.env.Env.{Env}
use Rattle.db_model.specs.declared.question.Answer.{Answer}
use Rattle.db_model.specs.declared.tree.Reason.{Reason}
use Rattle.db_model.specs.declared.value.Ty.{Ty}
use Rattle.db_model.specs.declared.value.Value.{Value}
use Rattle.db_model.specs.Fitting.{row_fits, row_declared, has_type, answer_fits, table_of}
use Rattle.db_model.specs.Questions.{Asks, Gives, Asking}

-- a value of each variable's type
abbrev pub variables_fit : Database → List VarDecl → List Value → Bool
variables_fit db [] [] = true
variables_fit db [] (v ∷ vs) = false
variables_fit db (d ∷ ds) [] = false
variables_fit db (d ∷ ds) (v ∷ vs) = has_type db d.ty v && variables_fit db ds vs

-- the row last hit of a table, where there is one
abbrev pub last_hit_fits : Database → TableDecl → Option (List Value) → Bool
last_hit_fits db d None = true
last_hit_fits db d (Some row) = row_fits d.columns row && row_declared db row

abbrev pub hits_fit : Database → List TableDecl → List (Option (List Value)) → Bool
hits_fit db [] [] = true
hits_fit db [] (h ∷ hs) = false
hits_fit db (d ∷ ds) [] = false
hits_fit db (d ∷ ds) (h ∷ hs) = last_hit_fits db d h && hits_fit db ds hs

-- the variables and the rows last hit of a state fit
unfoldable pub env_fits : Database → Env → Bool
env_fits db z = variables_fit db db.variables z.vars && hits_fit db db.tables z.hits

-- P holds of what a computation gives, whatever answers that fit it gets
abbrev pub Gets : {A : Type 0} → Database → (A → Type 0) → Asks A → Type 0
Gets db P (Gives a) = P a
Gets db P (Asking q k) = (a : Answer) → answer_fits db (slice_get db.tables (table_of q)) a ≡ true → Gets db P (k a)

-- a value has the type, where there is one
abbrev pub IsTyped : Database → Ty → Result Value Reason → Type 0
IsTyped db ty (Ok v) = has_type db ty v ≡ true
IsTyped db ty (Err r) = Unit {0}
