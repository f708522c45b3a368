use Rattle.std.proofs.Common.{◌≡◌, drop}
use Rattle.db_cause.specs.declared.cause.Cause.TheVariants as cause
use Rattle.db_model.specs.LeastFault.{earlier}
use Rattle.db_model.specs.Lines.{over}
use Rattle.db_model.specs.NameFaults.{repeated_blocks}
use Rattle.db_check.specs.First.{first}
use Rattle.db_check.proofs.repeats.in_protocols.Given as goal

abbrev pub invariant-loop-protocol : goal.invariant-loop-protocol
invariant-loop-protocol l = earlier l.found (first cause.DeclaredAgain (over repeated_blocks (drop l.protocol-index l.protocols))) ≡ first cause.DeclaredAgain (over repeated_blocks l.protocols)
