-- The commands and the options as they are written.
use Rattle.std.specs.Prelude.{codes}
use Rattle.db_model.specs.Names.{Text}
use Rattle.npd_words.specs.declared.command.Command.{Command}
use Rattle.npd_words.specs.declared.command.Command.TheVariants as command
use Rattle.npd_words.specs.declared.option_name.OptionName.{OptionName}
use Rattle.npd_words.specs.declared.option_name.OptionName.TheVariants as option

unfoldable pub command_text : Command → Text
command_text command.Decode = codes "decode"
command_text command.Check = codes "check"
command_text command.Gen = codes "gen"

unfoldable pub option_text : OptionName → Text
option_text option.Db = codes "--db"
option_text option.Cap = codes "--cap"
option_text option.Pdml = codes "--pdml"
option_text option.Psml = codes "--psml"
option_text option.Trace = codes "--trace"
option_text option.Report = codes "--report"
option_text option.Workers = codes "--workers"
option_text option.Window = codes "--window"
option_text option.MaxPackets = codes "--max-packets"
option_text option.Seed = codes "--seed"
option_text option.Packets = codes "--packets"
