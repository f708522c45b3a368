use Rattle.std.proofs.Common.{◌≡◌, ◌++◌, drop, map}
use Rattle.expr_text.specs.Printing.{arguments, printing}
use Rattle.expr_text.proofs.print.+print.Given as goal

abbrev pub invariant-push_arguments-loop-key : goal.invariant-push_arguments-loop-key
invariant-push_arguments-loop-key l = l.text.items ++ arguments (map printing (drop l.key-index l.keys)) ≡ l.initial.text.items ++ arguments (map printing l.keys)
