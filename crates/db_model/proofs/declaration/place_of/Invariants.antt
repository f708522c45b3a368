use Rattle.std.proofs.Common.{◌≡◌, ◌+◌, map, drop}
use Rattle.db_model.specs.Names.{place}
use Rattle.db_model.proofs.declaration.place_of.Given as goal

abbrev pub invariant-loop-i : goal.invariant-loop-i
invariant-loop-i g l = l.i + place l.name (map g.T.Declaration.named (drop l.i l.declarations)) ≡ place l.name (map g.T.Declaration.named l.declarations)
