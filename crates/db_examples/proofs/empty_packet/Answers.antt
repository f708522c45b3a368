use Rattle.db_examples.proofs.Worked.{empty_packet}
use Rattle.db_examples.proofs.empty_packet.Goals as goal

pub returns : goal.returns
returns c = empty_packet
