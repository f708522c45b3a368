-- What is looked at when all options are read.
use Rattle.std.specs.Prelude.{ℕ, Bool, true, false, not, ◌&&◌, if◌then◌else◌, List, [], ◌∷◌, ◌++◌, bytes_eq, codes, Option, Some, None}
use Rattle.npd_words.specs.declared.given.Given.{Given}
use Rattle.npd_words.specs.declared.row.Form.{Form}
use Rattle.npd_words.specs.declared.row.Form.TheVariants as form
use Rattle.npd_words.specs.declared.row.Need.{Need}
use Rattle.npd_words.specs.declared.row.Need.TheVariants as need
use Rattle.npd_words.specs.declared.row.OptionRow.{OptionRow}
use Rattle.npd_words.specs.Options.{is_given}
use Rattle.npd_words.specs.Spelled.{option_text}

-- ---- a required option is missing

abbrev pub is_required : Need → Bool
is_required need.Required = true
is_required need.Optional = false
is_required (need.Default n) = false

abbrev pub lacks : List Given → List OptionRow → Bool
lacks given [] = false
lacks given (r ∷ rs) = if is_required r.need && not (is_given given (option_text r.option)) then true else lacks given rs

-- ---- two files have one name

-- which files with one name are too many: two inputs or two outputs. An input and an output may both be `-`, and nothing else. A number is no file
abbrev pub collide : Form → Form → Bool → Bool
collide form.Input form.Input is_standard = true
collide form.Output form.Output is_standard = true
collide form.Input form.Output is_standard = not is_standard
collide form.Output form.Input is_standard = not is_standard
collide _ _ is_standard = false

abbrev pub is_same : Given → Given → Bool
is_same a b = bytes_eq a.value b.value && collide a.row.form b.row.form (bytes_eq a.value (codes "-"))

abbrev pub has_same : List Given → Given → Bool
has_same [] b = false
has_same (a ∷ more) b = if is_same a b then true else has_same more b

-- the index of the first option whose file one before it names
abbrev pub same_name : List Given → List Given → Option ℕ
same_name before [] = None
same_name before (g ∷ gs) = if has_same before g then Some g.index else same_name (before ++ g ∷ []) gs
