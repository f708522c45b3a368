use Rattle.std.proofs.Common.{◌≡◌, ◌++◌, drop}
use Rattle.expr_text.specs.Printing.{all_escaped}
use Rattle.expr_text.proofs.print.push_all_escaped.Given as goal

abbrev pub invariant-loop-byte : goal.invariant-loop-byte
invariant-loop-byte l = l.text.items ++ all_escaped (drop l.byte-index l.bytes) ≡ l.initial.text.items ++ all_escaped l.bytes
