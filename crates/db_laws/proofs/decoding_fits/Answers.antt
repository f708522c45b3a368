use Rattle.db_laws.proofs.ProperDecoding.{log_of_decoding, most_of_decoding, session_of_decoding}
use Rattle.db_laws.proofs.decoding_fits.Goals as goal

pub returns : goal.returns
returns c = record {
  log = λ db p s h. log_of_decoding db h p s;
  most = λ db p s h. most_of_decoding db h p s;
  session = λ db p s h. session_of_decoding db h p s;
}
