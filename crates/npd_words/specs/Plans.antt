-- The plan that a command and its options are.
use Rattle.std.specs.Prelude.{ℕ, if◌then◌else◌, List, [], ◌∷◌, bytes_eq, Option, Some, None, unwrap_or}
use Rattle.db_model.specs.Names.{Text}
use Rattle.npd_words.specs.declared.command.Command.{Command}
use Rattle.npd_words.specs.declared.command.Command.TheVariants as command
use Rattle.npd_words.specs.declared.given.Given.{Given}
use Rattle.npd_words.specs.declared.option_name.OptionName.{OptionName}
use Rattle.npd_words.specs.declared.option_name.OptionName.TheVariants as option
use Rattle.npd_words.specs.declared.plan.Plan.{Plan}
use Rattle.npd_words.specs.declared.plan.Plan.TheVariants as plan
use Rattle.npd_words.specs.declared.row.Need.{Need}
use Rattle.npd_words.specs.declared.row.Need.TheVariants as need
use Rattle.npd_words.specs.declared.row.OptionRow.{OptionRow}
use Rattle.npd_words.specs.Numbers.{number_of}
use Rattle.npd_words.specs.Options.{value_of}
use Rattle.npd_words.specs.Rows.{rows}
use Rattle.npd_words.specs.Spelled.{option_text}

-- the name of a file that has to be given
abbrev pub file : List Given → OptionName → Text
file given o = unwrap_or (value_of given o) []

abbrev pub default_in : Need → ℕ
default_in need.Required = 0
default_in need.Optional = 0
default_in (need.Default n) = n

-- the number that an option is where it isn't given
abbrev pub default_of : List OptionRow → OptionName → ℕ
default_of [] o = 0
default_of (r ∷ rs) o = if bytes_eq (option_text o) (option_text r.option) then default_in r.need else default_of rs o

abbrev pub number_by : List OptionRow → OptionName → Option Text → ℕ
number_by rs o (Some t) = unwrap_or (number_of t) 0
number_by rs o None = default_of rs o

abbrev pub number : List OptionRow → List Given → OptionName → ℕ
number rs given o = number_by rs o (value_of given o)

abbrev pub plan_of : Command → List Given → Plan
plan_of command.Decode given =
    plan.Decode (file given option.Db) (file given option.Cap)
    (value_of given option.Pdml) (value_of given option.Psml) (value_of given option.Trace) (value_of given option.Report)
    (number (rows command.Decode) given option.Workers) (number (rows command.Decode) given option.Window) (number (rows command.Decode) given option.MaxPackets)
plan_of command.Check given = plan.Check (file given option.Db)
plan_of command.Gen given =
    plan.Gen (number (rows command.Gen) given option.Seed) (number (rows command.Gen) given option.Packets)
    (number (rows command.Gen) given option.Workers) (number (rows command.Gen) given option.Window)
