use Rattle.std.proofs.Common.{◌≡◌, ◌+◌, sym, subst, arith, slice_set}
use Rattle.engine.specs.declared.receipt.Taken.{Taken}
use Rattle.spec_core.specs.declared.slot.Slot.TheVariants as slot
use Rattle.spec_core.specs.Machine.{Machine, IsSound}
use Rattle.spec_core.specs.Events.{CanTake, taken_of}
use Rattle.spec_core.specs.Inside.{machine_of}
use Rattle.spec_core.proofs.Lists.{set_length}
use Rattle.spec_core.proofs.Steps.{take_sound}
use Rattle.spec_core.proofs.machine.Core.mark_out.Goals as goal

pub invariant_of-self : goal.invariant_of-self
invariant_of-self c =
    let k = c.self.inside in
    let m = machine_of k in
    let is : c.args.taken ≡ taken_of m = subst (λ (n : Machine). c.args.taken ≡ taken_of n) (sym c.self.view_is) c.requires.taken in
    record {
      sound = subst (λ (t : Taken). IsSound (record m { given = m.given + 1; slots = slice_set m.slots m.given (slot.Out t) })) (sym is) (take_sound m c.self.invariant.sound (subst CanTake (sym c.self.view_is) c.requires.can));
      numbers = c.self.invariant.numbers;
      database = c.self.invariant.database;
      content = c.self.invariant.content;
      view_database = c.self.invariant.view_database;
      view_content = c.self.invariant.view_content;
      empty = c.self.invariant.empty;
      room = omega (arith, set_length k.slots.items k.given (slot.Out c.args.taken), c.self.invariant.room);
    }
