use Rattle.std.proofs.Common.{◌≤◌, ◌-◌, length, take}
use Rattle.npd_host.specs.Host.{Took, MovesOutputsOnly}
use Rattle.npd_host.proofs.transfer.write_all.Given as goal

-- the bytes before `done` were taken, and nothing else moved
abbrev pub invariant-loop-done : goal.invariant-loop-done
invariant-loop-done g l = record {
  within : l.done ≤ length l.bytes;
  took : Took l.id.0 (g.H.Host.outputs l.fn.host) (g.H.Host.outputs l.host) (take l.done l.bytes);
  frame : MovesOutputsOnly g.H.Host.inputs g.H.Host.files g.H.Host.faults l.fn.host l.host;
}

abbrev pub decreases-loop-done : goal.decreases-loop-done
decreases-loop-done g l = length l.bytes - l.done
