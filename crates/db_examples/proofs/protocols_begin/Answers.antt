use Rattle.db_examples.proofs.Protocols.{protocols_begin}
use Rattle.db_examples.proofs.protocols_begin.Goals as goal

pub returns : goal.returns
returns c = protocols_begin
