use Rattle.std.proofs.Common.{◌≡◌, take}
use Rattle.npd_host.specs.Host.{MovesOutputsOnly}
use Rattle.pipeline.specs.Ready.{ready_texts}
use Rattle.pipeline.specs.Taken.{TookEach}
use Rattle.pipeline.proofs.output.write_ready.Given as goal

abbrev pub invariant-loop-one : goal.invariant-loop-one
invariant-loop-one g l = record {
  took : TookEach l.sinks (g.H.Host.outputs l.fn.host) (g.H.Host.outputs l.host) (ready_texts (take l.one-index l.ready));
  names : (g.H.Host.outputs l.host).name ≡ (g.H.Host.outputs l.fn.host).name;
  frame : MovesOutputsOnly g.H.Host.inputs g.H.Host.files g.H.Host.faults l.fn.host l.host;
}
