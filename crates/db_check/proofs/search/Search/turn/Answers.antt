use Rattle.std.proofs.Common.{slice_get}
use Rattle.db_check.proofs.Searched.{turn_none}
use Rattle.db_check.proofs.search.Search.turn.Goals as goal

pub returns-in-None : goal.returns-in-None
returns-in-None c = turn_none c.args.graph.now (slice_get c.args.self.now.queue c.args.place) c.args.self.now c.in-None.ensures.value
