use Rattle.pipeline.specs.Serial.{serial_lines}
use Rattle.pipeline.proofs.Outcomes.{named_outputs}
use Rattle.pipeline.proofs.packets.write_named.Goals as goal

pub returns-in-Ok-new-clause-named : goal.returns-in-Ok-new-clause-named
returns-in-Ok-new-clause-named g c =
    let H = g.H.Host in
    let files = c.args.outputs.now in
    let room = c.args.room in
    let begins = c.in-Ok-new.ensures in
    let is = rw (begins.engine, begins.reader_is, begins.sinks_are, begins.room_is, c.in-Ok.ensures.frame.inputs) at c.run.ensures.output in
    named_outputs c.args.engine.now serial_lines room.most files c.in-Ok.sinks (H.outputs c.args.host.now) (H.outputs c.open_outputs.new.host) (H.outputs c.run.new.host) c.run.result c.args.reader (H.inputs c.args.host.now) (H.inputs c.run.new.host)
    c.in-Ok.ensures.opens is
