use Rattle.db_laws.proofs.LawsHold.{agrees_in_parts}
use Rattle.db_laws.proofs.agrees_in_parts.Goals as goal

pub returns : goal.returns
returns c = agrees_in_parts
