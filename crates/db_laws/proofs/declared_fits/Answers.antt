use Rattle.db_laws.proofs.Fitted.{declared_fits}
use Rattle.db_laws.proofs.declared_fits.Goals as goal

pub returns : goal.returns
returns c = declared_fits
