use Rattle.std.proofs.Common.{◌≡◌, ℕ, List, Option, [], ◌++◌, refl, ap, ◌∙◌, arith}
use Rattle.std.proofs.lemmas.Result.{err_from_is_err_and}
use Rattle.npd_host.specs.declared.host.InId.{InId}
use Rattle.pipeline.specs.Pipeline.{standing}
use Rattle.pipeline.specs.Serial.{serial_lines}
use Rattle.pipeline.proofs.Turns.{begun, unopened, passed, closed, failed, ended}
use Rattle.pipeline.proofs.pipeline.Pipeline.pass_windows.Goals as goal

pub returns-in_err-write_openings-clause-ends : goal.returns-in_err-write_openings-clause-ends
returns-in_err-write_openings-clause-ends g c =
    let p = err_from_is_err_and c.from_residual.result c.from_residual.ensures.1 in
    let H = g.H.Host in
    let way = c.args.self.now in
    let a = standing way c.args.steps.now (H.inputs c.args.host.now) (H.outputs c.args.host.now) in
    let wrote = c.in_err-write_openings.ensures in
    rw (p.1, p.2, wrote.same, wrote.frame.inputs)
    (unopened way.engine.now serial_lines way.sinks way.room.most c.in_err-write_openings.field-0.0 a (H.outputs c.write_openings.new.host) wrote.takes)

pub loop-status-init : goal.loop-status-init
loop-status-init g c =
    let H = g.H.Host in
    let way = c.args.self.now in
    let a = standing way c.args.steps.now (H.inputs c.args.host.now) (H.outputs c.args.host.now) in
    let wrote = c.in_ok-write_openings.ensures in
    let flows = c.requires.flows in
    rw (wrote.same, wrote.frame.inputs)
    (record {
      reached = record { packets = []; far = begun way.engine.now serial_lines way.sinks a (H.outputs c.write_openings.new.host) c.requires.fresh.session wrote.takes };
      flows = record {
        database = flows.database;
        reading = flows.reading;
        input = flows.input;
        reach = flows.reach;
        given = rw wrote.takes.names flows.given;
        apart = flows.apart;
        window = flows.window;
        counted = flows.counted;
        fits = flows.fits;
      };
      same = record { engine = refl; sinks = refl; window = refl; most = refl };
      input = refl;
      outputs = wrote.takes.names;
      files = wrote.frame.files;
      later = wrote.frame.later;
    })

pub returns-in_err-pass_window-clause-ends : goal.returns-in_err-pass_window-clause-ends
returns-in_err-pass_window-clause-ends g c =
    let p = err_from_is_err_and c.from_residual-in_err-pass_window.result c.from_residual-in_err-pass_window.ensures.1 in
    let H = g.H.Host in
    let way = c.args.self.now in
    let a = standing way c.args.steps.now (H.inputs c.args.host.now) (H.outputs c.args.host.now) in
    let l = c.loop-status in
    let inv = l.invariant in
    let b = standing l.self l.steps (H.inputs l.host) (H.outputs l.host) in
    let d = standing c.pass_window.new.self c.pass_window.new.steps (H.inputs c.pass_window.new.host) (H.outputs c.pass_window.new.host) in
    let all : way.room.left ≡ way.room.most = omega (arith, c.requires.flows.counted, c.requires.fresh.number) in
    let turns = rw (inv.same.engine, inv.same.sinks) at c.in_err-pass_window.ensures.turns in
    rw (p.1, p.2)
    (ended c.serial_front.ensures c.fronts_tell.ensures.part way.engine.now serial_lines way.sinks way.room.most l.self.room inv.reached.packets a b d inv.reached.far refl all inv.same.most c.in_err-pass_window.field-0.0 turns)

pub loop-status-preserved : goal.loop-status-preserved
loop-status-preserved g c =
    let H = g.H.Host in
    let way = c.args.self.now in
    let a = standing way c.args.steps.now (H.inputs c.args.host.now) (H.outputs c.args.host.now) in
    let l = c.loop-status in
    let inv = l.invariant in
    let b = standing l.self l.steps (H.inputs l.host) (H.outputs l.host) in
    let d = standing c.pass_window.new.self c.pass_window.new.steps (H.inputs c.pass_window.new.host) (H.outputs c.pass_window.new.host) in
    let ok = c.in_ok-pass_window.ensures in
    let passes = rw (c.in-Full.is, inv.same.engine, inv.same.sinks) at ok.turns in
    let far = passed c.serial_front.ensures way.engine.now serial_lines way.sinks l.self.room inv.reached.packets a b d inv.reached.far passes in
    record {
      reached = record { packets = inv.reached.packets ++ passes.packets; far = far };
      flows = rw c.in-Full.is at ok.flows;
      same = record {
        engine = ok.same.engine ∙ inv.same.engine;
        sinks = ok.same.sinks ∙ inv.same.sinks;
        window = ok.same.window ∙ inv.same.window;
        most = ok.same.most ∙ inv.same.most;
      };
      input = ap (λ (i : InId). (H.inputs c.pass_window.new.host).name i.0) far.reads.id ∙ ap (λ (f : ℕ → Option (List ℕ)). f way.reader.id.0) far.reads.gave.names;
      outputs = far.took.names;
      files = ok.files ∙ inv.files;
      later = λ kind name. omega (arith, ok.later kind name, inv.later kind name);
    }

pub loop-status-smaller : goal.loop-status-smaller
loop-status-smaller g c =
    let passes = rw c.in-Full.is at c.in_ok-pass_window.ensures.turns in
    let left = passes.left in
    let some = passes.reads.noted.1.some in
    omega arith

pub returns-in-Closes-clause-ends : goal.returns-in-Closes-clause-ends
returns-in-Closes-clause-ends g c =
    let H = g.H.Host in
    let way = c.args.self.now in
    let a = standing way c.args.steps.now (H.inputs c.args.host.now) (H.outputs c.args.host.now) in
    let l = c.loop-status in
    let inv = l.invariant in
    let b = standing l.self l.steps (H.inputs l.host) (H.outputs l.host) in
    let d = standing c.pass_window.new.self c.pass_window.new.steps (H.inputs c.pass_window.new.host) (H.outputs c.pass_window.new.host) in
    let all : way.room.left ≡ way.room.most = omega (arith, c.requires.flows.counted, c.requires.fresh.number) in
    let passes = rw (c.in-Closes.is, inv.same.engine, inv.same.sinks) at c.in_ok-pass_window.ensures.turns in
    closed c.serial_front.ensures c.fronts_tell.ensures.part way.engine.now serial_lines way.sinks way.room.most l.self.room inv.reached.packets a b d inv.reached.far refl all inv.same.most c.in-Closes.status passes

pub returns-in-Fails-clause-ends : goal.returns-in-Fails-clause-ends
returns-in-Fails-clause-ends g c =
    let H = g.H.Host in
    let way = c.args.self.now in
    let a = standing way c.args.steps.now (H.inputs c.args.host.now) (H.outputs c.args.host.now) in
    let l = c.loop-status in
    let inv = l.invariant in
    let b = standing l.self l.steps (H.inputs l.host) (H.outputs l.host) in
    let d = standing c.pass_window.new.self c.pass_window.new.steps (H.inputs c.pass_window.new.host) (H.outputs c.pass_window.new.host) in
    let all : way.room.left ≡ way.room.most = omega (arith, c.requires.flows.counted, c.requires.fresh.number) in
    let passes = rw (c.in-Fails.is, inv.same.engine, inv.same.sinks) at c.in_ok-pass_window.ensures.turns in
    failed c.serial_front.ensures c.fronts_tell.ensures.part way.engine.now serial_lines way.sinks way.room.most l.self.room inv.reached.packets a b d inv.reached.far refl all inv.same.most c.requires.fresh.number c.requires.fresh.kept c.in-Fails.status passes
