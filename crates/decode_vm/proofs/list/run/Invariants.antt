use Rattle.std.proofs.Common.{◌≡◌}
use Rattle.decode_vm.specs.Cost.{cost}
use Rattle.decode_vm.proofs.Stepping.{SoFar}
use Rattle.decode_vm.proofs.list.run.Given as goal

abbrev pub invariant-loop-m : goal.invariant-loop-m
invariant-loop-m g l = record {
  database : g.A.Answers.database l.answers ≡ l.fn.db;
  so_far : SoFar l.fn.db l.fn.code l.fn.frame (g.A.Answers.content l.fn.answers) (g.A.Answers.told l.fn.answers) l.m (g.A.Answers.content l.answers) (g.A.Answers.told l.answers);
}

abbrev pub decreases-loop-m : goal.decreases-loop-m
decreases-loop-m g l = cost l.fn.code l.m
