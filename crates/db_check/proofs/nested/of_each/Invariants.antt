use Rattle.std.proofs.Common.{◌≡◌, drop}
use Rattle.db_cause.specs.declared.cause.Cause.TheVariants as cause
use Rattle.db_model.specs.BlockFaults.{protocol_45, protocol_46}
use Rattle.db_model.specs.LeastFault.{earlier}
use Rattle.db_model.specs.Lines.{over}
use Rattle.db_check.specs.First.{first}
use Rattle.db_check.proofs.nested.of_each.Given as goal

abbrev pub invariant-loop-number : goal.invariant-loop-number
invariant-loop-number l = record {
  cycles : earlier l.cycles (first cause.IncludesItself (over protocol_45 (drop l.number l.protocols))) ≡ first cause.IncludesItself (over protocol_45 l.protocols);
  depths : earlier l.depths (first cause.NestedTooDeep (over protocol_46 (drop l.number l.protocols))) ≡ first cause.NestedTooDeep (over protocol_46 l.protocols);
}
