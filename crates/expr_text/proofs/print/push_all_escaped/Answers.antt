use Rattle.std.proofs.Common.{◌∙◌, arith}
use Rattle.expr_text.proofs.PrintedForms.{more_escaped}
use Rattle.expr_text.proofs.print.push_all_escaped.Goals as goal

pub loop-byte-preserved : goal.loop-byte-preserved
loop-byte-preserved c = more_escaped c.loop-byte.text.items c.push_escaped.new.text.items c.args.bytes.now c.loop-byte.byte-index (omega arith) c.in_ok-push_escaped.ensures ∙ c.loop-byte.invariant
