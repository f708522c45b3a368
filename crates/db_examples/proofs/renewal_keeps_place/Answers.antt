use Rattle.db_examples.proofs.Rules.{renewal_keeps_place}
use Rattle.db_examples.proofs.renewal_keeps_place.Goals as goal

pub returns : goal.returns
returns c = renewal_keeps_place
