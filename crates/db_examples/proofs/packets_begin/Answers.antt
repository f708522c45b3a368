use Rattle.db_examples.proofs.Protocols.{packets_begin}
use Rattle.db_examples.proofs.packets_begin.Goals as goal

pub returns : goal.returns
returns c = packets_begin
