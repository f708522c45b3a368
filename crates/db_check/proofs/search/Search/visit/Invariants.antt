use Rattle.std.proofs.Common.{◌≡◌, drop}
use Rattle.db_check.specs.Graph.{visit}
use Rattle.db_check.proofs.search.Search.visit.Given as goal

abbrev pub invariant-loop-target : goal.invariant-loop-target
invariant-loop-target l = visit (drop l.target-index l.targets) l.self ≡ visit l.targets l.fn.self
