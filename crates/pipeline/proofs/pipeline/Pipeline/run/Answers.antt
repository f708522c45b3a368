use Rattle.pipeline.specs.Pipeline.{standing}
use Rattle.pipeline.specs.Serial.{serial_lines}
use Rattle.pipeline.proofs.Outcomes.{open_output, closed_output, unclosed_output}
use Rattle.pipeline.proofs.pipeline.Pipeline.run.Goals as goal

pub returns-in-Ok-write_closings-clause-output : goal.returns-in-Ok-write_closings-clause-output
returns-in-Ok-write_closings-clause-output g c =
    let H = g.H.Host in
    let way = c.args.self in
    let a = standing way c.begin-steps.result (H.inputs c.args.host.now) (H.outputs c.args.host.now) in
    let b = standing c.pass_windows.new.self c.pass_windows.new.steps (H.inputs c.pass_windows.new.host) (H.outputs c.pass_windows.new.host) in
    let took = rw c.in-Ok.ensures.same.sinks at c.in-Ok-write_closings.ensures.takes in
    rw c.in-Ok-write_closings.ensures.frame.inputs
    (closed_output c.serial_front.ensures way.engine.now serial_lines way.sinks way.room.most c.seen_is_limited.ensures.read c.in-Ok.status a b (H.outputs c.write_closings.new.host) c.in-Ok.ensures.ends took)

pub returns-in-Ok-clause-output : goal.returns-in-Ok-clause-output
returns-in-Ok-clause-output g c =
    let H = g.H.Host in
    let way = c.args.self in
    let a = standing way c.begin-steps.result (H.inputs c.args.host.now) (H.outputs c.args.host.now) in
    let b = standing c.pass_windows.new.self c.pass_windows.new.steps (H.inputs c.pass_windows.new.host) (H.outputs c.pass_windows.new.host) in
    let fails = rw c.in-Ok.ensures.same.sinks at c.in-Err-write_closings.ensures.takes in
    rw c.in-Err-write_closings.ensures.frame.inputs
    (unclosed_output c.serial_front.ensures way.engine.now serial_lines way.sinks way.room.most c.in-Ok.status c.in-Err-write_closings.status a b (H.outputs c.write_closings.new.host) c.in-Ok.ensures.ends fails)

pub returns-clause-output : goal.returns-clause-output
returns-clause-output g c =
    let H = g.H.Host in
    let way = c.args.self in
    let a = standing way c.begin-steps.result (H.inputs c.args.host.now) (H.outputs c.args.host.now) in
    let b = standing c.pass_windows.new.self c.pass_windows.new.steps (H.inputs c.pass_windows.new.host) (H.outputs c.pass_windows.new.host) in
    open_output c.serial_front.ensures way.engine.now serial_lines way.sinks way.room.most c.in-Err.status a b c.in-Err.ensures.ends
