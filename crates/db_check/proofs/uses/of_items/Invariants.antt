use Rattle.std.proofs.Common.{◌≡◌, drop}
use Rattle.db_cause.specs.declared.cause.Cause.TheVariants as cause
use Rattle.db_model.specs.LeastFault.{earlier}
use Rattle.db_model.specs.Lines.{over}
use Rattle.db_model.specs.NameFaults.{item_41}
use Rattle.db_check.specs.First.{first}
use Rattle.db_check.proofs.uses.of_items.Given as goal

abbrev pub invariant-loop-item : goal.invariant-loop-item
invariant-loop-item l = earlier l.found (first cause.Undeclared (over (item_41 l.known.database.now) (drop l.item-index l.items))) ≡ first cause.Undeclared (over (item_41 l.known.database.now) l.items)
