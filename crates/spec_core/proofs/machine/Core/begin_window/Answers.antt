use Rattle.std.proofs.Common.{◌≡◌, ◌+◌, ◌<◌, ◌^◌, ◌∙◌, List, ap, sym, subst, arith, length}
use Rattle.db_model.specs.declared.packet.Packet.{Packet}
use Rattle.db_model.specs.Session.{Session}
use Rattle.session.specs.State.{State, View}
use Rattle.spec_core.specs.declared.slot.Slot.{Slot}
use Rattle.spec_core.specs.Events.{CanBegin, begun}
use Rattle.spec_core.specs.Inside.{machine_of}
use Rattle.spec_core.specs.Machine.{Machine, IsSound, state_at}
use Rattle.spec_core.proofs.Lists.{free_length}
use Rattle.spec_core.proofs.Steps.{begun_sound}
use Rattle.spec_core.proofs.machine.Core.begin_window.Goals as goal

pub invariant_of-self-2 : goal.invariant_of-self-2
invariant_of-self-2 c =
    let k = c.self.inside in
    let m = machine_of k in
    let inv = c.self.invariant in
    let qs = c.args.packets.items in
    let made = c.in_ok-window.ensures in
    let can : CanBegin m qs = subst (λ (n : Machine). CanBegin n qs) (sym c.self.view_is) c.requires in
    let base : c.in_ok-window.window.base.value.content ≡ state_at m.run m.done = made.base ∙ inv.content in
    let last = can.last in
    record {
      sound =
          subst (λ (ss : List Slot). IsSound (record (begun m qs) { run = record { db = m.run.db; wanted = m.run.wanted; base = c.in_ok-window.window.base.value.content; first = m.run.first + m.done; packets = c.in_ok-window.window.packets.value }; slots = ss })) (sym made.slots)
          (subst (λ (ps : List Packet). IsSound (record (begun m qs) { run = record { db = m.run.db; wanted = m.run.wanted; base = c.in_ok-window.window.base.value.content; first = m.run.first + m.done; packets = ps } })) (sym made.packets)
          (subst (λ (b : Session). IsSound (record (begun m qs) { run = record { db = m.run.db; wanted = m.run.wanted; base = b; first = m.run.first + m.done; packets = qs } })) (sym base) (begun_sound m qs can)));
      numbers = subst (λ (ps : List Packet). k.first + k.done + length ps < 2 ^ 64) (sym made.packets) last;
      database = ap (λ (s : State). s.database) made.same ∙ inv.database;
      content = ap (λ (s : State). s.content) made.same ∙ sym made.base;
      view_database = ap (λ (v : View). v.database) made.published ∙ inv.database;
      view_content = ap (λ (v : View). v.content) made.published ∙ sym made.base;
      empty = made.ready.0;
      room = (let n = ap (λ (ss : List Slot). length ss) made.slots in omega (arith, n, free_length (length qs), made.ready.1));
    }
