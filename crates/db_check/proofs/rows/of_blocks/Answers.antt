use Rattle.std.proofs.Common.{◌∙◌, ap}
use Rattle.db_cause.specs.declared.cause.Cause.TheVariants as cause
use Rattle.db_check.specs.First.{first}
use Rattle.db_check.proofs.FirstFault.{step_on, at_end}
use Rattle.db_model.specs.declared.database.NamedBlock.{NamedBlock}
use Rattle.db_model.specs.NumberFaults.{list_44}
use Rattle.db_check.proofs.rows.of_blocks.Goals as goal

pub loop-block-preserved : goal.loop-block-preserved
loop-block-preserved c = step_on (λ (b : NamedBlock). list_44 b.body) cause.UnfollowedBits c.args.blocks.now c.loop-block.block-index c.block-item.result c.loop-block.found c.of_list.result c.earlier-found.result _ c.loop-block-test.true c.block-item.is (c.of_list.ensures ∙ ap (λ l. first cause.UnfollowedBits (list_44 l)) c.as_slice.ensures) c.earlier-found.ensures c.loop-block.invariant

pub returns : goal.returns
returns c = at_end (λ (b : NamedBlock). list_44 b.body) cause.UnfollowedBits c.args.blocks.now c.loop-block.block-index c.loop-block.found _ c.loop-block-test.false c.loop-block.invariant
