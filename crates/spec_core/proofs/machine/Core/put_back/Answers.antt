use Rattle.std.proofs.Common.{ℕ, ◌-◌, sym, subst, arith}
use Rattle.spec_core.specs.declared.slot.Slot.TheVariants as slot
use Rattle.spec_core.specs.Machine.{Machine}
use Rattle.spec_core.specs.Events.{CanPutBack}
use Rattle.spec_core.specs.Inside.{machine_of}
use Rattle.spec_core.proofs.Lists.{set_length}
use Rattle.spec_core.proofs.Steps.{untook_at}
use Rattle.spec_core.proofs.machine.Core.put_back.Goals as goal

pub invariant_of-self : goal.invariant_of-self
invariant_of-self c =
    let k = c.self.inside in
    let m = machine_of k in
    let can = subst (λ (n : ℕ). CanPutBack m n c.args.job.taken) (sym c.number.ensures) (subst (λ (n : Machine). CanPutBack n c.args.job.number c.args.job.taken) (sym c.self.view_is) c.requires) in
    record {
      sound = untook_at m c.self.invariant.sound c.number.result c.args.job.taken can;
      numbers = c.self.invariant.numbers;
      database = c.self.invariant.database;
      content = c.self.invariant.content;
      view_database = c.self.invariant.view_database;
      view_content = c.self.invariant.view_content;
      empty = c.self.invariant.empty;
      room = omega (arith, set_length k.slots.items (c.number.result - k.first) slot.Free, c.self.invariant.room);
    }
