use Rattle.spec_core.proofs.Later.{commits_later}
use Rattle.spec_core.proofs.laws.commits_later.Goals as goal

pub returns : goal.returns
returns c = commits_later
