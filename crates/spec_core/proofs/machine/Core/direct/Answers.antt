use Rattle.std.proofs.Common.{◌≡◌, ◌∙◌, ◌+◌, ◌<◌, List, sym, subst, ap, refl, arith, length, slice_get, get_or, Some}
use Rattle.std.proofs.lemmas.Option.{slice_get_read}
use Rattle.std.specs.Arc.{arc_value}
use Rattle.db_model.specs.declared.packet.Packet.{Packet}
use Rattle.db_model.specs.Decoding.{dec}
use Rattle.db_model.specs.Session.{Session}
use Rattle.engine.specs.declared.receipt.Outcome.TheVariants as outcome
use Rattle.spec_core.specs.declared.slot.Ready.{Ready}
use Rattle.spec_core.specs.declared.slot.Slot.TheVariants as slot
use Rattle.spec_core.specs.Machine.{Machine, IsSound}
use Rattle.spec_core.specs.Events.{settled, direct_of}
use Rattle.spec_core.specs.Inside.{machine_of, run_of}
use Rattle.spec_core.proofs.Commits as commit
use Rattle.spec_core.proofs.Lists.{set_length, wide}
use Rattle.spec_core.proofs.Steps.{stop_sound}
use Rattle.spec_core.proofs.machine.Core.direct.Goals as goal

pub decode_here-requires-clause-time : goal.decode_here-requires-clause-time
decode_here-requires-clause-time g c =
    let k = c.self.inside in
    let p = c.index-as_slice-at.result in
    let open' = subst (λ (n : Machine). n.done < length n.run.packets) (sym c.self.view_is) c.requires.open in
    let read = subst (λ (ps : List Packet). p ≡ get_or ps k.done p) (c.as_slice.ensures ∙ c.deref.ensures) c.index-as_slice-at.is in
    c.self.invariant.sound.run.timely k.done p (slice_get_read (arc_value k.packets) _ k.done p refl open' read)

pub invariant_of-self : goal.invariant_of-self
invariant_of-self g c =
    let k = c.self.inside in
    let m = machine_of k in
    let inv = c.self.invariant in
    let w = inv.sound in
    let p = c.index-as_slice-at.result in
    let x = c.index.result.now in
    let open' = subst (λ (n : Machine). n.done < length n.run.packets) (sym c.self.view_is) c.requires.open in
    let read = subst (λ (ps : List Packet). p ≡ get_or ps k.done p) (c.as_slice.ensures ∙ c.deref.ensures) c.index-as_slice-at.is in
    let here : slice_get (arc_value k.packets) k.done ≡ Some p = slice_get_read (arc_value k.packets) _ k.done p refl open' read in
    let l = wide (length k.slots.items) (length (arc_value k.packets)) k.done w.slots open' in
    let at : slice_get k.slots.items k.done ≡ Some x = slice_get_read k.slots.items _ k.done x refl (omega (arith, open', l)) c.index.ensures in
    let texts = c.in-Ok.ensures.texts in
    let content = c.in-Ok.ensures.content in
    let y : Ready = record { texts = c.in-Ok.texts; receipt = record { number = k.first + k.done; taken = c.taken-taken.result; outcome = outcome.Direct c.args.why } } in
    let is = commit.is_direct m p w here x at k.session.content c.in-Ok.texts c.taken-taken.result c.args.why inv.content texts c.taken-taken.ensures in
    let left = commit.left_is m p w here x at c.next_given-self-inside.result y c.args.why c.next_given-self-inside.ensures is in
    record {
      sound = subst IsSound (sym left) (commit.direct_sound m p w here x at c.args.why);
      numbers = inv.numbers;
      database = c.in-Ok.ensures.database ∙ inv.database;
      content = commit.next_state (run_of k) k.done p c.decode_here.new.session.content here (content ∙ ap (λ (z : Session). (dec (k.decoder.engine) p z).session) inv.content);
      view_database = inv.view_database;
      view_content = inv.view_content;
      empty = inv.empty;
      room = omega (arith, set_length k.slots.items k.done (slot.Settled y), inv.room);
    }

pub invariant_of-self-in-Err : goal.invariant_of-self-in-Err
invariant_of-self-in-Err g c =
    let inv = c.self.invariant in
    record {
      sound = stop_sound (machine_of c.self.inside) inv.sound;
      numbers = inv.numbers;
      database = c.in-Err.ensures.database ∙ inv.database;
      content = c.in-Err.ensures.refused ∙ inv.content;
      view_database = inv.view_database;
      view_content = inv.view_content;
      empty = inv.empty;
      room = inv.room;
    }

pub returns-in-Ok-clause-ok : goal.returns-in-Ok-clause-ok
returns-in-Ok-clause-ok g c =
    let k = c.self.inside in
    let m = machine_of k in
    let inv = c.self.invariant in
    let w = inv.sound in
    let p = c.index-as_slice-at.result in
    let x = c.index.result.now in
    let open' = subst (λ (n : Machine). n.done < length n.run.packets) (sym c.self.view_is) c.requires.open in
    let read = subst (λ (ps : List Packet). p ≡ get_or ps k.done p) (c.as_slice.ensures ∙ c.deref.ensures) c.index-as_slice-at.is in
    let here : slice_get (arc_value k.packets) k.done ≡ Some p = slice_get_read (arc_value k.packets) _ k.done p refl open' read in
    let l = wide (length k.slots.items) (length (arc_value k.packets)) k.done w.slots open' in
    let at : slice_get k.slots.items k.done ≡ Some x = slice_get_read k.slots.items _ k.done x refl (omega (arith, open', l)) c.index.ensures in
    let texts = c.in-Ok.ensures.texts in
    let y : Ready = record { texts = c.in-Ok.texts; receipt = record { number = k.first + k.done; taken = c.taken-taken.result; outcome = outcome.Direct c.args.why } } in
    let is = commit.is_direct m p w here x at k.session.content c.in-Ok.texts c.taken-taken.result c.args.why inv.content texts c.taken-taken.ensures in
    let left = commit.left_is m p w here x at c.next_given-self-inside.result y c.args.why c.next_given-self-inside.ensures is in
    subst (λ (n : Machine). commit.left_direct m p w here x at c.next_given-self-inside.result y ≡ settled n (direct_of n c.args.why)) c.self.view_is left
