use Rattle.db_cause.specs.declared.cause.Cause.TheVariants as cause
use Rattle.db_check.proofs.FirstFault.{step_on, at_end}
use Rattle.db_check.specs.Rows.{rows_in}
use Rattle.db_check.proofs.rows.in_protocols.Goals as goal

pub loop-protocol-preserved : goal.loop-protocol-preserved
loop-protocol-preserved c = step_on rows_in cause.UnfollowedBits c.args.protocols.now c.loop-protocol.protocol-index c.protocol-item.result c.loop-protocol.found c.in_protocol.result c.earlier-found.result _ c.loop-protocol-test.true c.protocol-item.is (c.in_protocol.ensures) c.earlier-found.ensures c.loop-protocol.invariant

pub returns : goal.returns
returns c = at_end rows_in cause.UnfollowedBits c.args.protocols.now c.loop-protocol.protocol-index c.loop-protocol.found _ c.loop-protocol-test.false c.loop-protocol.invariant
