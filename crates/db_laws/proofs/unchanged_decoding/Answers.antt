use Rattle.db_laws.proofs.LawsHold.{unchanged_decoding}
use Rattle.db_laws.proofs.unchanged_decoding.Goals as goal

pub returns : goal.returns
returns c = unchanged_decoding
