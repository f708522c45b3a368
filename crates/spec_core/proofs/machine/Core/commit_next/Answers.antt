use Rattle.std.proofs.Common.{◌≡◌, ◌∙◌, ◌+◌, ◌<◌, List, Ok, sym, subst, ap, refl, arith, length, slice_get, slice_set, get_or, Some}
use Rattle.std.proofs.lemmas.Option.{slice_get_read}
use Rattle.std.specs.Arc.{arc_value}
use Rattle.db_model.specs.declared.packet.Packet.{Packet}
use Rattle.db_model.specs.Decoding.{dec}
use Rattle.db_model.specs.Session.{Session}
use Rattle.spec_core.specs.declared.slot.Slot.{Slot}
use Rattle.spec_core.specs.declared.slot.Slot.TheVariants as slot
use Rattle.spec_core.specs.Commits.{Commits}
use Rattle.spec_core.specs.Events.{settled, ready_of, settled_slot}
use Rattle.spec_core.specs.Inside.{machine_of, run_of}
use Rattle.spec_core.specs.Machine.{Machine, IsSound}
use Rattle.spec_core.proofs.Commits as commit
use Rattle.spec_core.proofs.Lists.{set_length, set_set, wide}
use Rattle.spec_core.proofs.Steps.{stop_sound}
use Rattle.spec_core.proofs.machine.Core.commit_next.Goals as goal

pub keep_or_decode-requires-clause-time : goal.keep_or_decode-requires-clause-time
keep_or_decode-requires-clause-time g c =
    let k = c.self.inside in
    let m = machine_of k in
    let inv = c.self.invariant in
    let w = inv.sound in
    let p = c.index-as_slice-at.result in
    let s = c.in-In.s in
    let n = c.len.ensures ∙ ap (λ (ps : List Packet). length ps) c.deref.ensures in
    let open' : k.done < length (arc_value k.packets) = omega (arith, n, c.if-at-len.false, w.order.1, w.order.2) in
    let read = subst (λ (ps : List Packet). p ≡ get_or ps k.done p) (c.as_slice.ensures ∙ c.deref-2.ensures) c.index-as_slice-at.is in
    let here : slice_get (arc_value k.packets) k.done ≡ Some p = slice_get_read (arc_value k.packets) _ k.done p refl open' read in
    w.run.timely k.done p here

pub keep_or_decode-requires-clause-decoded : goal.keep_or_decode-requires-clause-decoded
keep_or_decode-requires-clause-decoded g c =
    let k = c.self.inside in
    let m = machine_of k in
    let inv = c.self.invariant in
    let w = inv.sound in
    let p = c.index-as_slice-at.result in
    let s = c.in-In.s in
    let n = c.len.ensures ∙ ap (λ (ps : List Packet). length ps) c.deref.ensures in
    let open' : k.done < length (arc_value k.packets) = omega (arith, n, c.if-at-len.false, w.order.1, w.order.2) in
    let read = subst (λ (ps : List Packet). p ≡ get_or ps k.done p) (c.as_slice.ensures ∙ c.deref-2.ensures) c.index-as_slice-at.is in
    let here : slice_get (arc_value k.packets) k.done ≡ Some p = slice_get_read (arc_value k.packets) _ k.done p refl open' read in
    let l = wide (length k.slots.items) (length (arc_value k.packets)) k.done w.slots open' in
    let at : slice_get k.slots.items k.done ≡ Some (slot.In s) = slice_get_read k.slots.items _ k.done c.index.result.now refl (omega (arith, open', l)) c.index.ensures ∙ ap Some c.in-In.is in
    commit.next_decoded m p s w here at

pub invariant_of-self : goal.invariant_of-self
invariant_of-self g c =
    let k = c.self.inside in
    let m = machine_of k in
    let inv = c.self.invariant in
    let w = inv.sound in
    let p = c.index-as_slice-at.result in
    let s = c.in-In.s in
    let n = c.len.ensures ∙ ap (λ (ps : List Packet). length ps) c.deref.ensures in
    let open' : k.done < length (arc_value k.packets) = omega (arith, n, c.if-at-len.false, w.order.1, w.order.2) in
    let read = subst (λ (ps : List Packet). p ≡ get_or ps k.done p) (c.as_slice.ensures ∙ c.deref-2.ensures) c.index-as_slice-at.is in
    let here : slice_get (arc_value k.packets) k.done ≡ Some p = slice_get_read (arc_value k.packets) _ k.done p refl open' read in
    let l = wide (length k.slots.items) (length (arc_value k.packets)) k.done w.slots open' in
    let at : slice_get k.slots.items k.done ≡ Some (slot.In s) = slice_get_read k.slots.items _ k.done c.index.result.now refl (omega (arith, open', l)) c.index.ensures ∙ ap Some c.in-In.is in
    let at2 : slice_get k.slots.items k.done ≡ Some c.index_mut.result.now = slice_get_read k.slots.items _ k.done c.index_mut.result.now refl (omega (arith, open', l)) c.index_mut.ensures.value in
    let was : c.replace-slot.result ≡ slot.In s = c.replace-slot.ensures.value ∙ (let e = sym at2 ∙ at in (cc)) in
    let texts = c.in-Ok.ensures.texts in
    let outcome = c.in-Ok.ensures.outcome in
    let y : c.settled.result ≡ slot.Settled (ready_of m s) = c.settled.ensures ∙ ap (λ (x : Slot). settled_slot x c.in-Ok.texts c.in-Ok.outcome) was ∙ commit.is_ready m p s w here at k.session.content c.in-Ok.texts c.in-Ok.outcome inv.content texts outcome in
    let last : record m { done = m.done + 1; slots = slice_set (slice_set m.slots m.done c.replace-slot.new.dest) m.done c.settled.result } ≡ settled m (ready_of m s) =
    ap (λ (ss : List Slot). record m { done = m.done + 1; slots = ss }) (set_set m.slots m.done c.replace-slot.new.dest c.settled.result) ∙ commit.left_settled m p s w here at c.settled.result y in
    let content = c.in-Ok.ensures.content in
    record {
      sound = subst IsSound (sym last) (commit.settled_sound m p s w here at);
      numbers = inv.numbers;
      database = c.in-Ok.ensures.database ∙ inv.database;
      content = commit.next_state (run_of k) k.done p c.keep_or_decode.new.session.content here (content ∙ ap (λ (z : Session). (dec (k.decoder.engine) p z).session) inv.content);
      view_database = inv.view_database;
      view_content = inv.view_content;
      empty = inv.empty;
      room = omega (arith, set_length k.slots.items k.done c.replace-slot.new.dest, set_length (slice_set k.slots.items k.done c.replace-slot.new.dest) k.done c.settled.result, inv.room);
    }

pub invariant_of-self-in-Err : goal.invariant_of-self-in-Err
invariant_of-self-in-Err g c =
    let inv = c.self.invariant in
    record {
      sound = stop_sound (machine_of c.self.inside) inv.sound;
      numbers = inv.numbers;
      database = c.in-Err.ensures.database ∙ inv.database;
      content = c.in-Err.ensures.refused ∙ inv.content;
      view_database = inv.view_database;
      view_content = inv.view_content;
      empty = inv.empty;
      room = inv.room;
    }

pub returns-in-Ok-clause-commits : goal.returns-in-Ok-clause-commits
returns-in-Ok-clause-commits g c =
    let k = c.self.inside in
    let m = machine_of k in
    let inv = c.self.invariant in
    let w = inv.sound in
    let p = c.index-as_slice-at.result in
    let s = c.in-In.s in
    let n = c.len.ensures ∙ ap (λ (ps : List Packet). length ps) c.deref.ensures in
    let open' : k.done < length (arc_value k.packets) = omega (arith, n, c.if-at-len.false, w.order.1, w.order.2) in
    let read = subst (λ (ps : List Packet). p ≡ get_or ps k.done p) (c.as_slice.ensures ∙ c.deref-2.ensures) c.index-as_slice-at.is in
    let here : slice_get (arc_value k.packets) k.done ≡ Some p = slice_get_read (arc_value k.packets) _ k.done p refl open' read in
    let l = wide (length k.slots.items) (length (arc_value k.packets)) k.done w.slots open' in
    let at : slice_get k.slots.items k.done ≡ Some (slot.In s) = slice_get_read k.slots.items _ k.done c.index.result.now refl (omega (arith, open', l)) c.index.ensures ∙ ap Some c.in-In.is in
    let at2 : slice_get k.slots.items k.done ≡ Some c.index_mut.result.now = slice_get_read k.slots.items _ k.done c.index_mut.result.now refl (omega (arith, open', l)) c.index_mut.ensures.value in
    let was : c.replace-slot.result ≡ slot.In s = c.replace-slot.ensures.value ∙ (let e = sym at2 ∙ at in (cc)) in
    let texts = c.in-Ok.ensures.texts in
    let outcome = c.in-Ok.ensures.outcome in
    let y : c.settled.result ≡ slot.Settled (ready_of m s) = c.settled.ensures ∙ ap (λ (x : Slot). settled_slot x c.in-Ok.texts c.in-Ok.outcome) was ∙ commit.is_ready m p s w here at k.session.content c.in-Ok.texts c.in-Ok.outcome inv.content texts outcome in
    let last : record m { done = m.done + 1; slots = slice_set (slice_set m.slots m.done c.replace-slot.new.dest) m.done c.settled.result } ≡ settled m (ready_of m s) =
    ap (λ (ss : List Slot). record m { done = m.done + 1; slots = ss }) (set_set m.slots m.done c.replace-slot.new.dest c.settled.result) ∙ commit.left_settled m p s w here at c.settled.result y in
    let n' : Machine = record m { done = m.done + 1; slots = slice_set (slice_set m.slots m.done c.replace-slot.new.dest) m.done c.settled.result } in
    subst (λ (x : Machine). Commits x (Ok c.by-committed.result) n') c.self.view_is
    (commit.answers m s c.if-self.false at c.in-Ok.outcome (commit.outcome_here m p s w here at k.session.content c.in-Ok.outcome inv.content outcome) c.by-committed.result c.by-committed.ensures n' last)
