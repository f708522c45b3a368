use Rattle.db_laws.proofs.LawsHold.{serial_front}
use Rattle.db_laws.proofs.serial_front.Goals as goal

pub returns : goal.returns
returns c = serial_front
