use Rattle.db_laws.proofs.Plain.{updates_unchanged}
use Rattle.db_laws.proofs.updates_unchanged.Goals as goal

pub returns : goal.returns
returns c = updates_unchanged
