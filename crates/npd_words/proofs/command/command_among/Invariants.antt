use Rattle.std.proofs.Common.{◌≡◌, drop}
use Rattle.npd_words.specs.Rows
use Rattle.npd_words.proofs.command.command_among.Given as goal

abbrev pub invariant-loop-command : goal.invariant-loop-command
invariant-loop-command l = Rows.command_among (drop l.command-index l.commands) l.word ≡ Rows.command_among l.commands l.word
