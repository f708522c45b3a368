use Rattle.std.proofs.Common.{map, drop}
use Rattle.db_model.proofs.Placed.{SoFar}
use Rattle.db_model.proofs.places.Places.of.Given as goal

abbrev pub invariant-loop-i : goal.invariant-loop-i
invariant-loop-i g l = SoFar (map g.T.Declaration.named l.declarations) l.places l.i (map g.T.Declaration.named (drop l.i l.declarations))
