use Rattle.std.proofs.Common.{◌≡◌, map, take, None}
use Rattle.db_model.proofs.env.no_hits.Given as goal

abbrev pub invariant-loop-table : goal.invariant-loop-table
invariant-loop-table l = l.hits ≡ map (λ d. None) (take l._table-index l.fn.db.tables)
