use Rattle.spec_core.proofs.Legal.{legal_receipts}
use Rattle.spec_core.proofs.laws.legal_receipts.Goals as goal

pub returns : goal.returns
returns c = legal_receipts
