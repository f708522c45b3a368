use Rattle.std.proofs.Common.{inr, ◌∙◌}
use Rattle.npd_top.proofs.run.decode_capture.Goals as goal

pub returns-clause-runs : goal.returns-clause-runs
returns-clause-runs g c =
    let H = g.H.Host in
    let capture = c.in-Ok.ensures in
    let named = c.write_named.ensures in
    let is_open = rw c.as_str.ensures at capture.capture in
    inr (record {
      reader = c.in-Ok.reader;
      inputs = H.inputs c.open_capture.new.host;
      faults = H.faults c.open_capture.new.host;
      opens = is_open;
      opened = named.inputs.gave.opened ∙ (rw c.as_str.ensures at capture.opens);
      later = capture.frame.later;
      named = rw (capture.frame.outputs, c.room_of.ensures) at named.named;
      names = rw capture.frame.outputs at named.opens;
      cause = rw is_open.named at named.cause;
    })
