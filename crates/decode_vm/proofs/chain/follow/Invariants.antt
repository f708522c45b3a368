use Rattle.std.proofs.Common.{◌≡◌}
use Rattle.db_model.specs.declared.limits.TheConstants.{MOST_ENTERED}
use Rattle.decode_vm.proofs.Chains.{ChainSoFar}
use Rattle.decode_vm.proofs.chain.follow.Given as goal

abbrev pub invariant-loop-protos : goal.invariant-loop-protos
invariant-loop-protos g l = record {
  database : g.A.Answers.database l.answers ≡ l.fn.db;
  so_far : ChainSoFar l.fn.db MOST_ENTERED l.first l.fn.frame (g.A.Answers.content l.fn.answers) (g.A.Answers.told l.fn.answers) l.left l.number l.protos l.frame (g.A.Answers.content l.answers) (g.A.Answers.told l.answers);
}

abbrev pub decreases-loop-protos : goal.decreases-loop-protos
decreases-loop-protos g l = l.left
