use Rattle.std.proofs.Common.{ℕ, ◌+◌, ◌≤◌, ◌<◌, ◌∙◌, min, List, length, Option, refl, ap, arith}
use Rattle.npd_host.specs.declared.host.InId.{InId}
use Rattle.pipeline.specs.Window.{captured_bytes, place, window_bytes}
use Rattle.pipeline.proofs.Windows.{light_none, reads_none, one_more, reads_on, window_noted}
use Rattle.pipeline.proofs.reading.read_window.Goals as goal

pub loop-count-init : goal.loop-count-init
loop-count-init g c = record {
  reads = rw c.requires.empty (reads_none (place c.args.reader.now (g.H.Host.inputs c.args.host.now)));
  counted = rw c.requires.empty refl;
  captured = rw c.requires.empty refl;
  light = rw c.requires.empty light_none;
  reading = c.requires.reading;
  reach = c.requires.reach;
  names = refl;
  frame = record { outputs = refl; files = refl; later = λ kind name. omega arith };
}

pub returns-in-Some-clause-reads : goal.returns-in-Some-clause-reads
returns-in-Some-clause-reads g c =
    let H = g.H.Host in
    let l = c.loop-count in
    let inv = l.invariant in
    let a = place c.args.reader.now (H.inputs c.args.host.now) in
    let m = place l.reader (H.inputs l.host) in
    let b = place c.read_one.new.reader (H.inputs c.read_one.new.host) in
    let counted = inv.counted in
    let below = c.loop-count-test.true in
    let least = c.min-count-end.ensures in
    let fits : length l.packets.items < min c.args.room.window c.args.room.left = first_of (omega arith, grind arith) in
    window_noted c.args.room l.packets.items a m b inv.reads inv.light (let few : length l.packets.items ≤ min c.args.room.window c.args.room.left = omega arith in few)
    c.in-Some.noted c.read_one.new.packets.items fits (rw c.in-Some.is at c.in_ok-noted.ensures.reads)

pub loop-count-preserved : goal.loop-count-preserved
loop-count-preserved g c =
    let H = g.H.Host in
    let l = c.loop-count in
    let inv = l.invariant in
    let a = place c.args.reader.now (H.inputs c.args.host.now) in
    let m = place l.reader (H.inputs l.host) in
    let b = place c.read_one.new.reader (H.inputs c.read_one.new.host) in
    let new = c.read_one.new.packets.items in
    let one = c.in_ok-noted.ensures in
    let captured = inv.captured in
    let below = c.if-captured-ge-MOST_WINDOW.false in
    let room : captured_bytes l.packets.items < window_bytes = omega arith in
    let more = one_more l.packets.items new a m b inv.reads inv.light room (reads_on c.in_ok-noted.field-0 l.packets.items new m b c.in_default.not-Some one.reads) in
    let reads = more.0 in
    record {
      reads = reads;
      counted = more.2 ∙ ap (λ (n : ℕ). n + 1) inv.counted;
      captured = one.captured;
      light = more.1;
      reading = reads.reading c.requires.reading;
      reach = one.reach;
      names = ap (λ (i : InId). (H.inputs c.read_one.new.host).name i.0) reads.id ∙ ap (λ (f : ℕ → Option (List ℕ)). f c.args.reader.now.id.0) reads.gave.names;
      frame = record {
        outputs = one.frame.outputs ∙ inv.frame.outputs;
        files = one.frame.files ∙ inv.frame.files;
        later = λ kind name. omega (arith, one.frame.later kind name, inv.frame.later kind name);
      };
    }
