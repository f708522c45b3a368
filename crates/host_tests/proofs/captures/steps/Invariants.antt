use Rattle.std.proofs.Common.{IsTrue, IsSome}
use Rattle.pcap_in.specs.Reader.{is_reading, InReach}
use Rattle.host_tests.proofs.captures.steps.Given as goal

abbrev pub invariant-loop-count : goal.invariant-loop-count
invariant-loop-count g l = record {
  reading : IsTrue (is_reading l.reader.state);
  given : IsSome ((g.H.Host.inputs l.host).name l.reader.id.0);
  reach : InReach l.reader (g.H.Host.inputs l.host);
}
