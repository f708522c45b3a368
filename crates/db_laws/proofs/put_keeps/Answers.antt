use Rattle.db_laws.proofs.Kept.{put_keeps}
use Rattle.db_laws.proofs.put_keeps.Goals as goal

pub returns : goal.returns
returns c = put_keeps
