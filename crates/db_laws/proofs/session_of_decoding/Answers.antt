use Rattle.db_laws.proofs.LawsHold.{session_of_decoding}
use Rattle.db_laws.proofs.session_of_decoding.Goals as goal

pub returns : goal.returns
returns c = session_of_decoding
