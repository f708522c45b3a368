use Rattle.std.proofs.Common.{◌≡◌, drop}
use Rattle.db_model.specs.LeastFault.{earlier}
use Rattle.db_model.specs.Lines.{over}
use Rattle.db_check.specs.First.{first}
use Rattle.db_check.specs.Known.{protocol_lines}
use Rattle.db_check.specs.Own.{cause_of}
use Rattle.db_check.proofs.known.Known.in_each.Given as goal

abbrev pub invariant-loop-number : goal.invariant-loop-number
invariant-loop-number l = earlier l.found (first (cause_of l.kind) (over (protocol_lines l.self.database.now l.kind) (drop l.number l.protocols))) ≡ first (cause_of l.kind) (over (protocol_lines l.self.database.now l.kind) l.protocols)
