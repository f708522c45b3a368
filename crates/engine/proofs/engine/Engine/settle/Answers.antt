use Rattle.std.proofs.Common.{arith}
use Rattle.engine.proofs.Settling.{session_more, settled_more}
use Rattle.engine.proofs.engine.Engine.settle.Goals as goal

pub loop-packet-preserved : goal.loop-packet-preserved
loop-packet-preserved g c =
    let l = c.loop-packet in
    let s = g.A.Answers.content c.args.answers.now in
    let now = g.A.Answers.content l.answers in
    let one = c.in_ok-one.ensures in
    let counted = l.invariant.steps in
    let more = one.steps in
    record {
      database = one.database;
      settles = rw c.in_ok-push.ensures.items
          (settled_more c.args.self.now s now c.args.packets.now l.packet-index c.packet-item.result c.loop-packet-test.true c.packet-item.is l.invariant.session c.args.wanted l.ready.items c.in_ok-one.one l.invariant.settles one.settled);
      session = session_more c.args.self.now s now c.args.packets.now l.packet-index c.packet-item.result c.loop-packet-test.true c.packet-item.is l.invariant.session (g.A.Answers.content c.settle_one.new.answers) one.session;
      steps = omega arith;
    }
