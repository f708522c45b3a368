use Rattle.std.proofs.Common.{◌∙◌, ap}
use Rattle.db_check.specs.First.{first}
use Rattle.db_check.proofs.FirstFault.{step_on, at_end}
use Rattle.db_model.specs.declared.database.NamedBlock.{NamedBlock}
use Rattle.db_model.specs.Lines.{over, lines_of}
use Rattle.db_check.specs.Around.{own_in}
use Rattle.db_check.specs.Own.{cause_of}
use Rattle.db_check.proofs.walk.of_blocks.Goals as goal

pub loop-block-preserved : goal.loop-block-preserved
loop-block-preserved c = step_on (λ (b : NamedBlock). over (lines_of (own_in c.args.around.now c.args.kind)) b.body) (cause_of c.args.kind) c.args.blocks.now c.loop-block.block-index c.block-item.result c.loop-block.found c.of_list.result c.earlier-found.result _ c.loop-block-test.true c.block-item.is (c.of_list.ensures ∙ ap (λ l. first (cause_of c.args.kind) (over (lines_of (own_in c.args.around.now c.args.kind)) l)) c.as_slice.ensures) c.earlier-found.ensures c.loop-block.invariant

pub returns : goal.returns
returns c = at_end (λ (b : NamedBlock). over (lines_of (own_in c.args.around.now c.args.kind)) b.body) (cause_of c.args.kind) c.args.blocks.now c.loop-block.block-index c.loop-block.found _ c.loop-block-test.false c.loop-block.invariant
