use Rattle.std.proofs.Common.{◌≡◌}
use Rattle.op_log.proofs.Again.{SoFar}
use Rattle.op_log.proofs.checking.check.Given as goal

abbrev pub invariant-loop-index : goal.invariant-loop-index
invariant-loop-index l = record {
  database : l.copy.database ≡ l.fn.session.database;
  so_far : SoFar l.fn.session.database l.t l.log l.fn.session.content l.index l.copy.content;
}
