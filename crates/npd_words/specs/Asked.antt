-- What the words of a command line ask for: a plan, or the index and the code of the first fault.
use Rattle.std.specs.Prelude.{ℕ, false, if◌then◌else◌, List, [], ◌∷◌, length, Option, Some, None, Result, Ok, Err}
use Rattle.db_model.specs.Names.{Text}
use Rattle.npd_words.specs.declared.cause.Cause.TheVariants as cause
use Rattle.npd_words.specs.declared.command.Command.{Command}
use Rattle.npd_words.specs.declared.fail.WordsFail.{WordsFail}
use Rattle.npd_words.specs.declared.fail.WordsFail.TheVariants as fail
use Rattle.npd_words.specs.declared.given.Given.{Given}
use Rattle.npd_words.specs.declared.plan.Plan.{Plan}
use Rattle.npd_words.specs.Names.{lacks, same_name}
use Rattle.npd_words.specs.Occurrences.{occurrences}
use Rattle.npd_words.specs.Options.{Fault, caused, options}
use Rattle.npd_words.specs.Plans.{plan_of}
use Rattle.npd_words.specs.Rows.{command_of, rows}

abbrev pub fault : ℕ → ℕ → Fault
fault index code = record { index = index; code = code }

-- no two files may have one name
abbrev pub planned_by : Command → List Given → Option ℕ → Result Plan Fault
planned_by c given (Some index) = Err (caused index cause.SameName)
planned_by c given None = Ok (plan_of c given)

-- what is required has to be given
abbrev pub planned : Command → ℕ → List Given → Result Plan Fault
planned c count given = if lacks given (rows c) then Err (caused count cause.MissingOption) else planned_by c given (same_name [] given)

abbrev pub asked_by : Command → ℕ → Result (List Given) Fault → Result Plan Fault
asked_by c count (Err f) = Err f
asked_by c count (Ok given) = planned c count given

-- the command has to be one that there is
abbrev pub asked_of : Option Command → ℕ → List Text → Result Plan Fault
asked_of None count ws = Err (caused 0 cause.UnknownCommand)
asked_of (Some c) count ws = asked_by c count (options (rows c) (occurrences ws false 1) [])

-- there has to be a word. The first one is the command, and behind it stand its options
abbrev pub asked : List Text → Result Plan Fault
asked [] = Err (caused 0 cause.NoWord)
asked (w ∷ ws) = asked_of (command_of w) (length (w ∷ ws)) ws

-- what holds of the fault that is answered; want of memory is free
abbrev pub IfFault : WordsFail → (Fault → Type 0) → Type 0
IfFault (fail.Fault index code) P = P (fault index code)
IfFault fail.NoMemory P = Unit {0}
