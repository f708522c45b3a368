use Rattle.db_laws.proofs.Fitted.{after_fits}
use Rattle.db_laws.proofs.after_fits.Goals as goal

pub returns : goal.returns
returns c = after_fits
