use Rattle.expr_eval.proofs.Latest.{latest_next, latest_all}
use Rattle.expr_eval.proofs.fields.last_place.Goals as goal

pub loop-number-preserved : goal.loop-number-preserved
loop-number-preserved c = latest_next c.args.numbers.now c.args.present.now c.loop-number.number-index c.loop-number.latest c.last.result c.later-latest.result _ c.loop-number-test.true c.last.ensures c.later-latest.ensures c.loop-number.invariant

pub returns : goal.returns
returns c = latest_all c.args.numbers.now c.args.present.now c.loop-number.number-index c.loop-number.latest c.loop-number-test.false c.loop-number.invariant
