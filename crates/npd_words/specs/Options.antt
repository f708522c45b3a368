-- The options that words give, read from the left, or the first fault.
use Rattle.std.specs.Prelude.{ℕ, Bool, true, false, ◌==◌, if◌then◌else◌, List, [], ◌∷◌, ◌++◌, length, bytes_eq, Option, Some, None, Result, Ok, Err}
use Rattle.db_model.specs.Names.{Text}
use Rattle.npd_words.specs.declared.cause.Cause.{Cause}
use Rattle.npd_words.specs.declared.cause.Cause.TheVariants as cause
use Rattle.npd_words.specs.declared.given.Given.{Given}
use Rattle.npd_words.specs.declared.option_name.OptionName.{OptionName}
use Rattle.npd_words.specs.declared.row.OptionRow.{OptionRow}
use Rattle.npd_words.specs.Codes
use Rattle.npd_words.specs.Numbers.{fits}
use Rattle.npd_words.specs.Occurrences.{Occurrence}
use Rattle.npd_words.specs.Spelled.{option_text}

-- a fault: the index of its word, and its code
pub record Fault : Type 0 where
  pub index : ℕ
  pub code : ℕ

-- that of a cause
abbrev pub caused : ℕ → Cause → Fault
caused index c = record { index = index; code = Codes.code c }

-- ---- what is known and what was given

-- the row of the option that is written so
abbrev pub row_of : List OptionRow → Text → Option OptionRow
row_of [] name = None
row_of (r ∷ rs) name = if bytes_eq name (option_text r.option) then Some r else row_of rs name

-- whether the option that is written so was given
abbrev pub is_given : List Given → Text → Bool
is_given [] name = false
is_given (g ∷ gs) name = if bytes_eq name (option_text g.row.option) then true else is_given gs name

-- the value of an option, where it was given
abbrev pub value_of : List Given → OptionName → Option Text
value_of [] o = None
value_of (g ∷ gs) o = if bytes_eq (option_text o) (option_text g.row.option) then Some g.value else value_of gs o

-- ---- one option: its row and its value, or the cause of its fault

-- the value has to follow, not to be empty, and to fit the row
abbrev pub judged_value : OptionRow → Option Text → Result (OptionRow × Text) Cause
judged_value r None = Err cause.NoValue
judged_value r (Some v) = if length v == 0 then Err cause.EmptyValue else (if fits r.form v then Ok (r, v) else Err cause.NoNumber)

-- the option has to be one of the command's, and may not be given before
abbrev pub judged_by : Option OptionRow → List Given → Text → Option Text → Result (OptionRow × Text) Cause
judged_by None given name value = Err cause.UnknownOption
judged_by (Some r) given name value = if is_given given name then Err cause.SecondTime else judged_value r value

abbrev pub judged : List OptionRow → List Given → Text → Option Text → Result (OptionRow × Text) Cause
judged rows given name value = judged_by (row_of rows name) given name value

-- ---- all options

abbrev pub taken_in : ℕ → Result (OptionRow × Text) Cause → (List Given → Result (List Given) Fault) → List Given → Result (List Given) Fault
taken_in i (Err c) more given = Err (caused i c)
taken_in i (Ok r) more given = more (given ++ record { index = i; row = r.0; value = r.1 } ∷ [])

-- each option is judged by those before it
abbrev pub options : List OptionRow → List Occurrence → List Given → Result (List Given) Fault
options rows [] given = Ok given
options rows (o ∷ os) given = taken_in o.index (judged rows given o.name o.value) (options rows os) given
