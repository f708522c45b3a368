use Rattle.db_laws.proofs.LawsHold.{serial_from}
use Rattle.db_laws.proofs.serial_from.Goals as goal

pub returns : goal.returns
returns c = serial_from
