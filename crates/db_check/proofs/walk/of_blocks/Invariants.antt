use Rattle.std.proofs.Common.{◌≡◌, drop}
use Rattle.db_model.specs.LeastFault.{earlier}
use Rattle.db_check.specs.Around.{own_in}
use Rattle.db_check.specs.First.{first}
use Rattle.db_check.specs.Layer.{lines_of_blocks}
use Rattle.db_check.specs.Own.{cause_of}
use Rattle.db_check.proofs.walk.of_blocks.Given as goal

abbrev pub invariant-loop-block : goal.invariant-loop-block
invariant-loop-block l = earlier l.found (first (cause_of l.kind) (lines_of_blocks (own_in l.around l.kind) (drop l.block-index l.blocks))) ≡ first (cause_of l.kind) (lines_of_blocks (own_in l.around l.kind) l.blocks)
