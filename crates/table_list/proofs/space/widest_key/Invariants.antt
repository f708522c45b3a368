use Rattle.std.proofs.Common.{◌≡◌, max, map, drop}
use Rattle.table_list.specs.Space.{widest}
use Rattle.table_list.proofs.space.widest_key.Given as goal

abbrev pub invariant-loop-key : goal.invariant-loop-key
invariant-loop-key l = max l.width (widest (map (λ k. k.size) (drop l.key-index l.keys))) ≡ widest (map (λ k. k.size) l.keys)
