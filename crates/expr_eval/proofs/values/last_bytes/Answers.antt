use Rattle.std.proofs.Common.{rules}
use Rattle.expr_eval.proofs.Bytes.{last_more}
use Rattle.expr_eval.proofs.values.last_bytes.Goals as goal

pub loop-place-preserved : goal.loop-place-preserved
loop-place-preserved c = record {
  same = rw c.in_ok-push.ensures.items (last_more c.args.size c.loop-place._place c.loop-place.left c.loop-place.bytes.items _ c.loop-place-test.true c.loop-place.invariant.same);
  len = search rules;
}
