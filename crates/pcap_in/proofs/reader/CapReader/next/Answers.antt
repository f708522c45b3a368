use Rattle.std.proofs.Common.{rules, [], Err, refl, ap}
use Rattle.pcap_in.specs.Reader.{Reader}
use Rattle.pcap_in.proofs.Reading.{FrontIs-ahead}
use Rattle.pcap_in.proofs.ReaderLemmas.{reading, Comes-end, Comes-broken, Comes-packet, Comes-refusal, Takes-refusal, reader_after-refusal, refusal-failed, reach-same, reach-next}
use Rattle.pcap_in.proofs.reader.CapReader.next.Goals as goal

pub returns-in-Ok-Packet : goal.returns-in-Ok-Packet
returns-in-Ok-Packet g c =
    let r = c.self.inside in
    let packet = c.in-Ok-Packet.packet in
    let found_is = c.in-Ok-Packet.field-0-is in
    let kept_is = c.take-kept.ensures.value in
    let finds = rw (found_is, kept_is) at c.in-Ok-Packet.ensures.finds in
    let read = rw (found_is, kept_is) at c.in-Ok-Packet.ensures.inputs in
    let usable = rw (← c.self.view_is) at c.requires.usable in
    let within = rw (← c.self.view_is) at c.requires.reach in
    let state_is = reading r.state usable c.in_default.not-Broken in
    rw (← c.self.view_is, c.pass.ensures, c.take-kept.ensures.after) (record {
      comes = rw state_is (Comes-packet r.form r.number r.offset _ _ packet _ _ finds within refl refl);
      after = rw state_is refl;
      id = search rules;
      reading = rw state_is refl;
      usable = rw state_is refl;
      reach = reach-next r.form r.number r.offset _ _ packet _ _ _ (FrontIs-ahead _ _ _ _ read.gave.front) finds within refl refl;
      again = search rules;
      stamp = rw found_is at c.in-Ok-Packet.ensures.stamp;
      inputs = read;
      frame = search rules;
      cause = search rules;
    })

pub returns-in-Ok-End : goal.returns-in-Ok-End
returns-in-Ok-End g c =
    let r = c.self.inside in
    let found_is = c.in-Ok-End.field-0-is in
    let kept_is = c.take-kept.ensures.value in
    let finds = rw (found_is, kept_is) at c.in-Ok-End.ensures.finds in
    let read = rw (found_is, kept_is) at c.in-Ok-End.ensures.inputs in
    let usable = rw (← c.self.view_is) at c.requires.usable in
    let within = rw (← c.self.view_is) at c.requires.reach in
    let state_is = reading r.state usable c.in_default.not-Broken in
    rw (← c.self.view_is, c.take-kept.ensures.after) (record {
      comes = rw state_is (Comes-end r.form r.number r.offset _ _ finds);
      after = rw state_is refl;
      id = search rules;
      reading = rw state_is refl;
      usable = rw state_is refl;
      reach = reach-same r.number r.offset _ _ _ (FrontIs-ahead _ _ _ _ read.gave.front) within;
      again = search rules;
      stamp = search rules;
      inputs = record { bytes = read.bytes; gave = read.gave; taken = (read.taken, refl) };
      frame = search rules;
      cause = search rules;
    })

pub returns-in-Ok-Broken : goal.returns-in-Ok-Broken
returns-in-Ok-Broken g c =
    let r = c.self.inside in
    let found_is = c.in-Ok-Broken.field-0-is in
    let kept_is = c.take-kept.ensures.value in
    let finds = rw (found_is, kept_is) at c.in-Ok-Broken.ensures.finds in
    let read = rw found_is at c.in-Ok-Broken.ensures.inputs in
    let usable = rw (← c.self.view_is) at c.requires.usable in
    let within = rw (← c.self.view_is) at c.requires.reach in
    let state_is = reading r.state usable c.in_default.not-Broken in
    rw (← c.self.view_is, c.take-kept.ensures.after) (record {
      comes = rw state_is (Comes-broken r.form r.number r.offset _ _ finds);
      after = search rules;
      id = search rules;
      reading = search rules;
      usable = search rules;
      reach = reach-same r.number r.offset _ _ _ (FrontIs-ahead _ _ _ _ read.gave.front) within;
      again = λ offset code broken. absurd (c.in_default.not-Broken offset code broken);
      stamp = search rules;
      inputs = read;
      frame = search rules;
      cause = search rules;
    })

pub returns-in-Err : goal.returns-in-Err
returns-in-Err g c =
    let r = c.self.inside in
    let kept_is = c.take-kept.ensures.value in
    let within = rw (← c.self.view_is) at c.requires.reach in
    let read = rw kept_is at c.in-Err.ensures.inputs in
    let was : Reader = record { id = r.id; form = r.form; number = r.number; offset = r.offset; kept = []; state = r.state } in
    rw (← c.self.view_is, c.take-kept.ensures.after, c.from.ensures) (record {
      comes = Comes-refusal c.in-Err.fail _ _;
      after = reader_after-refusal c.in-Err.fail was;
      id = search rules;
      reading = search rules;
      usable = search rules;
      reach = reach-same r.number r.offset _ _ _ (FrontIs-ahead _ _ _ _ read.gave.front) within;
      again = λ offset code broken. absurd (c.in_default.not-Broken offset code broken);
      stamp = search rules;
      inputs = record {
        bytes = read.bytes;
        gave = read.gave;
        taken = Takes-refusal c.in-Err.fail r.form r.number _ [] read.taken;
      };
      frame = search rules;
      cause = λ e. c.in-Err.ensures.cause (ap Err (refusal-failed c.in-Err.fail (cc)));
    })
