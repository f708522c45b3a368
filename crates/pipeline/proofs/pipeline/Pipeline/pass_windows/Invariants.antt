use Rattle.std.proofs.Common.{◌≡◌}
use Rattle.npd_host.specs.Host.{NoneFalls}
use Rattle.pipeline.specs.Pipeline.{standing, IsFlowing, GoesOn}
use Rattle.pipeline.proofs.Turns.{Reached}
use Rattle.pipeline.proofs.pipeline.Pipeline.pass_windows.Given as goal

abbrev pub invariant-loop-status : goal.invariant-loop-status
invariant-loop-status g l = record {
  reached : Reached l.fn.self.engine.now l.fn.self.sinks
      (standing l.fn.self l.fn.steps (g.H.Host.inputs l.fn.host) (g.H.Host.outputs l.fn.host))
      (standing l.self l.steps (g.H.Host.inputs l.host) (g.H.Host.outputs l.host));
  flows : IsFlowing l.self (g.H.Host.inputs l.host) (g.H.Host.outputs l.host);
  same : GoesOn l.fn.self l.self;
  input : (g.H.Host.inputs l.host).name l.self.reader.id.0 ≡ (g.H.Host.inputs l.fn.host).name l.fn.self.reader.id.0;
  outputs : (g.H.Host.outputs l.host).name ≡ (g.H.Host.outputs l.fn.host).name;
  files : g.H.Host.files l.host ≡ g.H.Host.files l.fn.host;
  later : NoneFalls (g.H.Host.faults l.fn.host) (g.H.Host.faults l.host);
}

abbrev pub decreases-loop-status : goal.decreases-loop-status
decreases-loop-status g l = l.self.room.left
