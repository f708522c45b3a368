use Rattle.std.proofs.Common.{◌-◌, sym, subst, arith}
use Rattle.spec_core.specs.declared.slot.Slot.TheVariants as slot
use Rattle.spec_core.specs.Machine.{Machine}
use Rattle.spec_core.specs.Events.{CanDeliver}
use Rattle.spec_core.specs.Inside.{machine_of}
use Rattle.spec_core.proofs.Lists.{set_length}
use Rattle.spec_core.proofs.Steps.{deliver_sound}
use Rattle.spec_core.proofs.machine.Core.deliver.Goals as goal

pub invariant_of-self : goal.invariant_of-self
invariant_of-self c = record {
  sound = deliver_sound (machine_of c.self.inside) c.self.invariant.sound c.args.s (subst (λ (m : Machine). CanDeliver m c.args.s) (sym c.self.view_is) c.requires);
  numbers = c.self.invariant.numbers;
  database = c.self.invariant.database;
  content = c.self.invariant.content;
  view_database = c.self.invariant.view_database;
  view_content = c.self.invariant.view_content;
  empty = c.self.invariant.empty;
  room = omega (arith, set_length c.self.inside.slots.items (c.args.s.number - c.self.inside.first) (slot.In c.args.s), c.self.invariant.room);
}
