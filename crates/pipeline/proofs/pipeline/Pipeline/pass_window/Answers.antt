use Rattle.std.proofs.Common.{◌≡◌, ◌≤◌, ◌-◌, length, Ok, refl, ap, arith}
use Rattle.std.proofs.lemmas.Result.{err_from_is_err_and}
use Rattle.pipeline.specs.Packets.{Standing, place_of}
use Rattle.pipeline.specs.Pipeline.{standing}
use Rattle.pipeline.specs.Taken.{wanted_of}
use Rattle.pipeline.specs.Window.{ReadsWindow}
use Rattle.pipeline.proofs.Turns.{turn_unread, turn_unsettled, turn_unwritten, turn_passed}
use Rattle.pipeline.proofs.pipeline.Pipeline.pass_window.Goals as goal

pub read_window-requires-clause-numbers : goal.read_window-requires-clause-numbers
read_window-requires-clause-numbers g c =
    let fits = c.requires.flows.fits in
    let counted = c.requires.flows.counted in
    omega arith

pub returns-in_err-noted-clause-turns : goal.returns-in_err-noted-clause-turns
returns-in_err-noted-clause-turns g c =
    let p = err_from_is_err_and c.from_residual.result c.from_residual.ensures.1 in
    let H = g.H.Host in
    let way = c.args.self.now in
    let items = c.read_window.new.packets.items in
    let a = standing way c.args.steps.now (H.inputs c.args.host.now) (H.outputs c.args.host.now) in
    let b : Standing = record { reader = c.read_window.new.reader; session = a.session; left = a.left; inputs = H.inputs c.read_window.new.host; outputs = H.outputs c.read_window.new.host; decoded = c.args.steps.now } in
    rw (p.1, p.2)
    (turn_unread way.engine.now way.sinks way.room items a b c.in_err-noted.field-0.0 c.in_err-noted.ensures.reads c.in_err-noted.ensures.frame.outputs refl)

pub returns-in_err-write_ready-in-Ok-clause-turns : goal.returns-in_err-write_ready-in-Ok-clause-turns
returns-in_err-write_ready-in-Ok-clause-turns g c =
    let p = err_from_is_err_and c.from_residual-in_err-write_ready-in-Ok.result c.from_residual-in_err-write_ready-in-Ok.ensures.1 in
    let H = g.H.Host in
    let way = c.args.self.now in
    let items = c.read_window.new.packets.items in
    let a = standing way c.args.steps.now (H.inputs c.args.host.now) (H.outputs c.args.host.now) in
    let b : Standing = record { reader = c.read_window.new.reader; session = c.settle.new.answers.content; left = a.left; inputs = H.inputs c.write_ready.new.host; outputs = H.outputs c.write_ready.new.host; decoded = c.settle.new.steps } in
    let window : ReadsWindow way.room (Ok c.in_ok-noted.noted) items (place_of a) (place_of b) = rw c.write_ready.ensures.frame.inputs c.in_ok-noted.ensures.reads in
    let settles = rw (c.wanted.ensures, c.deref.ensures.value) at c.in-Ok.ensures.ready in
    let have = c.settled_texts.ensures (wanted_of way.sinks) way.engine.now way.session.content items c.settle.new.ready.items settles in
    let steps = rw c.deref.ensures.value at c.in-Ok.ensures.steps in
    let fails = rw (c.deref-in-Ok.ensures.value, c.in_ok-noted.ensures.frame.outputs) at c.in_err-write_ready-in-Ok.ensures.takes in
    rw (p.1, p.2)
    (turn_unwritten way.engine.now way.sinks way.room items a b c.in_ok-noted.noted window c.settle.new.ready.items have steps c.in_err-write_ready-in-Ok.field-0.0 fails)

pub returns-in-Err-clause-turns : goal.returns-in-Err-clause-turns
returns-in-Err-clause-turns g c =
    let H = g.H.Host in
    let way = c.args.self.now in
    let items = c.read_window.new.packets.items in
    let a = standing way c.args.steps.now (H.inputs c.args.host.now) (H.outputs c.args.host.now) in
    let b : Standing = record { reader = c.read_window.new.reader; session = c.settle.new.answers.content; left = a.left; inputs = H.inputs c.read_window.new.host; outputs = H.outputs c.read_window.new.host; decoded = c.settle.new.steps } in
    turn_unsettled way.engine.now way.sinks way.room items a b c.in_ok-noted.noted c.in_ok-noted.ensures.reads c.in_ok-noted.ensures.frame.outputs (rw c.deref.ensures.value at c.in-Err.ensures.most)

pub overflow_cast-count : goal.overflow_cast-count
overflow_cast-count g c =
    let fits = c.requires.flows.fits in
    let counted = c.requires.flows.counted in
    let few = c.in_ok-noted.ensures.reads.few in
    let len : length c.as_slice.result.now ≡ length c.read_window.new.packets.items = ap length c.as_slice.ensures.value in
    let below : length c.read_window.new.packets.items ≤ c.args.self.now.room.left = grind (arith, few) in
    record { fits = omega arith }

pub returns-clause-turns : goal.returns-clause-turns
returns-clause-turns g c =
    let H = g.H.Host in
    let way = c.args.self.now in
    let items = c.read_window.new.packets.items in
    let a = standing way c.args.steps.now (H.inputs c.args.host.now) (H.outputs c.args.host.now) in
    let b : Standing = record { reader = c.read_window.new.reader; session = c.settle.new.answers.content; left = way.room.left - length c.as_slice.result.now; inputs = H.inputs c.write_ready.new.host; outputs = H.outputs c.write_ready.new.host; decoded = c.settle.new.steps } in
    let window : ReadsWindow way.room (Ok c.in_ok-noted.noted) items (place_of a) (place_of b) = rw c.write_ready.ensures.frame.inputs c.in_ok-noted.ensures.reads in
    let settles = rw (c.wanted.ensures, c.deref.ensures.value) at c.in-Ok.ensures.ready in
    let have = c.settled_texts.ensures (wanted_of way.sinks) way.engine.now way.session.content items c.settle.new.ready.items settles in
    let steps = rw c.deref.ensures.value at c.in-Ok.ensures.steps in
    let session = rw c.deref.ensures.value at c.in-Ok.ensures.session in
    let took = rw (c.deref-in-Ok.ensures.value, c.in_ok-noted.ensures.frame.outputs) at c.in_ok-write_ready-in-Ok.ensures.takes in
    let few = c.in_ok-noted.ensures.reads.few in
    let len : length c.as_slice.result.now ≡ length c.read_window.new.packets.items = ap length c.as_slice.ensures.value in
    let below : length items ≤ way.room.left = grind (arith, few) in
    turn_passed way.engine.now way.sinks way.room items a b c.in_ok-noted.noted window c.settle.new.ready.items have steps session (omega arith) took
