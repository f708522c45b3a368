-- What commits leave as it was.
use Rattle.std.specs.Prelude.{◌≡◌, ℕ, ◌≤◌, Some, slice_get}
use Rattle.engine.specs.declared.receipt.Taken.{Taken}
use Rattle.spec_core.specs.declared.slot.Slot.TheVariants.{Out}
use Rattle.spec_core.specs.Machine.{Machine}

-- the run, what is published, which packets are given and which of them are out; none is uncommitted again
pub record Later (m n : Machine) : Type 0 where
  pub run : n.run ≡ m.run
  pub shown : n.shown ≡ m.shown
  pub done : m.done ≤ n.done
  pub given : n.given ≡ m.given
  pub out : (i : ℕ) (t : Taken) → slice_get m.slots i ≡ Some (Out t) → slice_get n.slots i ≡ Some (Out t)
  pub back : (i : ℕ) (t : Taken) → slice_get n.slots i ≡ Some (Out t) → slice_get m.slots i ≡ Some (Out t)
