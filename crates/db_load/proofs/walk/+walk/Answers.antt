use Rattle.db_load.proofs.Parts.{inside_from, child_none, below_step}
use Rattle.db_load.proofs.walk.+walk.Goals as goal

pub inside-returns : goal.inside-returns
inside-returns t c = inside_from c.args.node.now c.args.kind c.args.left c.earlier.result c.earlier-own.result c.in_ok-of_attributes.field-0 c.of_place.result c.in_ok-below.below c.children.result.now c.saturating_sub.result c.as_slice-nodes.result.now c.earlier.ensures c.earlier-own.ensures c.in_ok-of_attributes.ensures c.of_place.ensures c.in_ok-below.ensures c.children.ensures c.saturating_sub.ensures c.as_slice-nodes.ensures

pub of_child-returns-in-None : goal.of_child-returns-in-None
of_child-returns-in-None t c = child_none c.args.node.now c.args.left c.args.row c.at_line.result c.in-None.is c.at_line.ensures

pub below-loop-node-preserved : goal.below-loop-node-preserved
below-loop-node-preserved t c = below_step c.args.rows.now c.args.left c.args.nodes.now c.loop-node.node-index c.node-item.result c.loop-node.found c.in_ok-of_child.field-0 c.earlier-found.result _ c.row_of-row.result c.as_slice.result.now c.loop-node-test.true c.node-item.is c.as_slice.ensures c.row_of-row.ensures c.in_ok-of_child.ensures c.earlier-found.ensures c.loop-node.invariant
