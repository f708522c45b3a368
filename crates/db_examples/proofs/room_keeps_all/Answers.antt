use Rattle.db_examples.proofs.Rules.{room_keeps_all}
use Rattle.db_examples.proofs.room_keeps_all.Goals as goal

pub returns : goal.returns
returns c = room_keeps_all
