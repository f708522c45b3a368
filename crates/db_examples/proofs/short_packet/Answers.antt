use Rattle.db_examples.proofs.Worked.{short_packet}
use Rattle.db_examples.proofs.short_packet.Goals as goal

pub returns : goal.returns
returns c = short_packet
