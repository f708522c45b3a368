use Rattle.std.proofs.Common.{◌≡◌, ◌-◌, length}
use Rattle.db_check.specs.Graph.{go}
use Rattle.db_check.proofs.search.leads_back.Given as goal

abbrev pub invariant-loop-place : goal.invariant-loop-place
invariant-loop-place l = go l.graph (length l.graph - l.place) l.place l.search ≡ go l.graph (length l.graph) 0 l.initial.search
