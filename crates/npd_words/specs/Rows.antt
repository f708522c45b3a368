-- The commands, and the options of each: what the value of an option is, and whether it has to be given.
use Rattle.std.specs.Prelude.{if◌then◌else◌, List, [], ◌∷◌, bytes_eq, Option, Some, None}
use Rattle.db_model.specs.Names.{Text}
use Rattle.npd_words.specs.declared.command.Command.{Command}
use Rattle.npd_words.specs.declared.command.Command.TheVariants as command
use Rattle.npd_words.specs.declared.option_name.OptionName.{OptionName}
use Rattle.npd_words.specs.declared.option_name.OptionName.TheVariants as option
use Rattle.npd_words.specs.declared.row.Form.{Form}
use Rattle.npd_words.specs.declared.row.Form.TheVariants.{Input, Output, Number}
use Rattle.npd_words.specs.declared.row.Need.{Need}
use Rattle.npd_words.specs.declared.row.Need.TheVariants.{Required, Optional, Default}
use Rattle.npd_words.specs.declared.row.OptionRow.{OptionRow}
use Rattle.npd_words.specs.Spelled.{command_text}

-- all commands
abbrev pub commands : List Command
commands = command.Decode ∷ command.Check ∷ command.Gen ∷ []

-- the command that is written so
abbrev pub command_among : List Command → Text → Option Command
command_among [] word = None
command_among (c ∷ cs) word = if bytes_eq word (command_text c) then Some c else command_among cs word

abbrev pub command_of : Text → Option Command
command_of word = command_among commands word

abbrev pub row : OptionName → Form → Need → OptionRow
row name form need = record { option = name; form = form; need = need }

-- the options that a command has
unfoldable pub rows : Command → List OptionRow
rows command.Decode =
    row option.Db Input Required
    ∷ row option.Cap Input Required
    ∷ row option.Pdml Output Optional
    ∷ row option.Psml Output Optional
    ∷ row option.Trace Output Optional
    ∷ row option.Report Output Optional
    ∷ row option.Workers (Number 0 64) (Default 4)
    ∷ row option.Window (Number 1 256) (Default 64)
    ∷ row option.MaxPackets (Number 1 4294967295) (Default 4294967295)
    ∷ []
rows command.Check = row option.Db Input Required ∷ []
rows command.Gen =
    row option.Seed (Number 0 4294967295) Required
    ∷ row option.Packets (Number 1 100000) Required
    ∷ row option.Workers (Number 0 64) (Default 0)
    ∷ row option.Window (Number 1 256) (Default 64)
    ∷ []
