use Rattle.db_laws.proofs.Typed.{start_fits}
use Rattle.db_laws.proofs.start_fits.Goals as goal

pub returns : goal.returns
returns c = start_fits
