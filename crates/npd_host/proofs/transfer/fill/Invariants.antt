use Rattle.std.proofs.Common.{◌≤◌, ◌-◌, length, take}
use Rattle.npd_host.specs.Host.{Gave, MovesInputsOnly}
use Rattle.npd_host.proofs.transfer.fill.Given as goal

-- the bytes before `done` were given, and nothing else moved
abbrev pub invariant-loop-done : goal.invariant-loop-done
invariant-loop-done g l = record {
  within : l.done ≤ length l.buf;
  gave : Gave l.id.0 (g.H.Host.inputs l.fn.host) (g.H.Host.inputs l.host) (take l.done l.buf);
  frame : MovesInputsOnly g.H.Host.outputs g.H.Host.files g.H.Host.faults l.fn.host l.host;
}

abbrev pub decreases-loop-done : goal.decreases-loop-done
decreases-loop-done g l = length l.initial.buf - l.done
