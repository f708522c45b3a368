use Rattle.std.proofs.Common.{◌≡◌, sym, subst, length, rules}
use Rattle.spec_core.specs.Events.{readies_of}
use Rattle.spec_core.specs.Inside.{machine_of}
use Rattle.spec_core.specs.Machine.{Machine}
use Rattle.spec_core.specs.Whole.{IsWhole}
use Rattle.spec_core.proofs.Drained.{whole}
use Rattle.spec_core.proofs.machine.Core.drain.Goals as goal

pub returns-clause-whole : goal.returns-clause-whole
returns-clause-whole c =
    let m = machine_of c.self.inside in
    let is : c.readies.result.items ≡ readies_of c.self.inside.slots.items = search rules in
    subst (λ (n : Machine). length n.slots ≡ length n.run.packets → IsWhole n.run c.readies.result.items) c.self.view_is
    (λ l. subst (IsWhole m.run) (sym is) (whole m c.self.invariant.sound (subst (λ (n : Machine). n.done ≡ length n.run.packets) (sym c.self.view_is) c.requires) l))
