use Rattle.std.proofs.Common.{◌≡◌, ◌++◌, length}
use Rattle.expr_code.specs.Code.{numbers_from, numbers_of}
use Rattle.expr_code.proofs.numbers.numbers_of.Given as goal

abbrev pub invariant-loop-left : goal.invariant-loop-left
invariant-loop-left l = l.numbers ++ numbers_from l.number l.name l.left ≡ numbers_of l.fields l.name

abbrev pub decreases-loop-left : goal.decreases-loop-left
decreases-loop-left l = length l.left
