use Rattle.std.proofs.Common.{◌≡◌, drop}
use Rattle.db_cause.specs.declared.cause.Cause.TheVariants as cause
use Rattle.db_model.specs.LeastFault.{earlier}
use Rattle.db_model.specs.Lines.{over}
use Rattle.db_check.specs.First.{first}
use Rattle.db_check.specs.Rows.{rows_in}
use Rattle.db_check.proofs.rows.in_protocols.Given as goal

abbrev pub invariant-loop-protocol : goal.invariant-loop-protocol
invariant-loop-protocol l = earlier l.found (first cause.UnfollowedBits (over rows_in (drop l.protocol-index l.protocols))) ≡ first cause.UnfollowedBits (over rows_in l.protocols)
