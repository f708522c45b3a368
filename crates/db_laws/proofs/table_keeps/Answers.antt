use Rattle.db_laws.proofs.Kept.{table_keeps}
use Rattle.db_laws.proofs.table_keeps.Goals as goal

pub returns : goal.returns
returns c = table_keeps
