-- What single parts of an evaluation give: a field, a column of a row that was hit, and a look-up whose keys are there.
use Rattle.std.specs.Prelude.{ℕ, Bool, List, slice_get, Option, Some, None, Result, Ok, Err}
use Rattle.db_model.specs.declared.tree.Reason.{Reason}
use Rattle.db_model.specs.declared.tree.Reason.TheVariants as reason
use Rattle.db_model.specs.declared.value.Value.{Value}
use Rattle.db_model.specs.declared.value.Value.TheVariants.{Buf}
use Rattle.db_model.specs.Expression.{Eval, ◌>>=◌, value_or_zero, asks, hit_as_number, to_number}
use Rattle.db_model.specs.declared.question.Question.TheVariants.{Look}

-- the bytes of a field, where there is one
abbrev pub field_value : Option (List ℕ) → Result Value Reason
field_value None = Err reason.NoField
field_value (Some b) = Ok (Buf b)

-- the same bytes as a number
abbrev pub field_number : Option (List ℕ) → Result Value Reason
field_number None = Err reason.NoField
field_number (Some b) = to_number b

-- a column of the row last hit of a table
abbrev pub column_value : Option (Option (List Value)) → ℕ → Result Value Reason
column_value None at = Err reason.NoHit
column_value (Some None) at = Err reason.NoHit
column_value (Some (Some row)) at = Ok (value_or_zero (slice_get row at))

-- a look-up, once its keys are there: it is asked, and then a hit is 1
abbrev pub looked_up : ℕ → List (List ℕ) → Bool → Eval Value
looked_up table keys renew = asks (Look table keys renew) >>= hit_as_number table
