use Rattle.std.proofs.Common.{IsSome}
use Rattle.host_tests.proofs.sizes.reads_all.Given as goal

abbrev pub invariant-loop : goal.invariant-loop
invariant-loop g l = IsSome ((g.H.Host.inputs l.host).name l.id.0)
