use Rattle.db_cause.specs.declared.cause.Cause.TheVariants as cause
use Rattle.db_check.proofs.FirstFault.{step_on, at_end}
use Rattle.db_model.specs.NameFaults.{item_41}
use Rattle.db_check.proofs.uses.of_items.Goals as goal

pub loop-item-preserved : goal.loop-item-preserved
loop-item-preserved c = step_on (item_41 c.args.known.now.database.now) cause.Undeclared c.args.items.now c.loop-item.item-index c.item-item.result c.loop-item.found c.of_item.result c.earlier-found.result _ c.loop-item-test.true c.item-item.is (c.of_item.ensures) c.earlier-found.ensures c.loop-item.invariant

pub returns : goal.returns
returns c = at_end (item_41 c.args.known.now.database.now) cause.Undeclared c.args.items.now c.loop-item.item-index c.loop-item.found _ c.loop-item-test.false c.loop-item.invariant
