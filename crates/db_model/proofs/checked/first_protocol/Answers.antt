use Rattle.std.proofs.Common.{arith}
use Rattle.db_model.proofs.Accepted.{few_declared}
use Rattle.db_model.proofs.checked.first_protocol.Goals as goal

pub overflow_cast-result : goal.overflow_cast-result
overflow_cast-result c = omega (arith, c.protocol_at.ensures.within, (few_declared c.args.database.now c.requires.accepted).protocols)
