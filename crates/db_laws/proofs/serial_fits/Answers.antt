use Rattle.std.specs.Prelude.{slice_get}
use Rattle.db_model.specs.Serial.{state}
use Rattle.db_laws.proofs.ProperDecoding.{log_of, most_of, state_fits}
use Rattle.db_laws.proofs.serial_fits.Goals as goal

pub returns : goal.returns
returns c = record {
  log = λ db s ps k h. log_of db h (slice_get ps k) (state db s ps k);
  most = λ db s ps k h. most_of db h (slice_get ps k) (state db s ps k);
  session = λ db s ps k h l f. state_fits db h s ps l f k;
}
