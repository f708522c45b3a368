use Rattle.db_laws.proofs.Fitted.{fits_stay}
use Rattle.db_laws.proofs.fits_stay.Goals as goal

pub returns : goal.returns
returns c = fits_stay
