use Rattle.db_check.specs.Known.{protocol_lines}
use Rattle.db_check.specs.Own.{cause_of}
use Rattle.db_check.proofs.FirstFault.{step_on}
use Rattle.db_check.proofs.known.Known.in_each.Goals as goal

pub loop-number-preserved : goal.loop-number-preserved
loop-number-preserved c = step_on (protocol_lines c.args.self.now.database.now c.args.kind) (cause_of c.args.kind) c.args.protocols.now c.loop-number.number c.index-protocols-number.result c.loop-number.found c.in_ok-in_one.field-0 c.earlier-found.result _ c.loop-number-test.true c.index-protocols-number.is c.in_ok-in_one.ensures c.earlier-found.ensures c.loop-number.invariant
