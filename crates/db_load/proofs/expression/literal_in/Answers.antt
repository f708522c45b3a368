use Rattle.db_load.proofs.NoLiteral.{no_literal}
use Rattle.db_load.proofs.expression.literal_in.Goals as goal

pub returns-in_default : goal.returns-in_default
returns-in_default c = no_literal c.args.e.now c.in_default.not-Number c.in_default.not-Text c.in_default.not-Protocol
