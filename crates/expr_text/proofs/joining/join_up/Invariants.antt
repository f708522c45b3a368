use Rattle.std.proofs.Common.{◌≡◌, length}
use Rattle.expr_text.specs.Machine.{join}
use Rattle.expr_text.proofs.joining.join_up.Given as goal

abbrev pub invariant-loop-alloc : goal.invariant-loop-alloc
invariant-loop-alloc l = join l.level l.whole l.frames ≡ join l.fn.level l.fn.e l.fn.frames

abbrev pub decreases-loop-alloc : goal.decreases-loop-alloc
decreases-loop-alloc l = length l.frames
