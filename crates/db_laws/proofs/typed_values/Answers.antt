use Rattle.db_laws.proofs.Typed.{typed_values}
use Rattle.db_laws.proofs.typed_values.Goals as goal

pub returns : goal.returns
returns c = typed_values
