use Rattle.db_cause.specs.declared.cause.Cause.TheVariants as cause
use Rattle.db_model.specs.BlockFaults.{protocol_45, protocol_46}
use Rattle.db_check.proofs.FirstFault.{step_on}
use Rattle.db_check.proofs.nested.of_each.Goals as goal

pub loop-number-preserved : goal.loop-number-preserved
loop-number-preserved c = record {
  cycles = step_on protocol_45 cause.IncludesItself c.args.protocols.now c.loop-number.number c.index-protocols-number.result c.loop-number.cycles c.in_ok-found.found.cycles c.earlier-cycles.result _ c.loop-number-test.true c.index-protocols-number.is c.in_ok-found.ensures.0 c.earlier-cycles.ensures c.loop-number.invariant.cycles;
  depths = step_on protocol_46 cause.NestedTooDeep c.args.protocols.now c.loop-number.number c.index-protocols-number.result c.loop-number.depths c.in_ok-found.found.depths c.earlier-depths.result _ c.loop-number-test.true c.index-protocols-number.is c.in_ok-found.ensures.1 c.earlier-depths.ensures c.loop-number.invariant.depths;
}
