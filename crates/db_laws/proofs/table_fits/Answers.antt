use Rattle.db_laws.proofs.Fitted.{table_fits_stays}
use Rattle.db_laws.proofs.table_fits.Goals as goal

pub returns : goal.returns
returns c = table_fits_stays
