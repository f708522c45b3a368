use Rattle.std.proofs.Common.{◌≡◌, drop}
use Rattle.db_cause.specs.declared.cause.Cause.TheVariants as cause
use Rattle.db_model.specs.LeastFault.{earlier}
use Rattle.db_check.specs.First.{first}
use Rattle.db_check.specs.Rows.{rows_of_blocks}
use Rattle.db_check.proofs.rows.of_blocks.Given as goal

abbrev pub invariant-loop-block : goal.invariant-loop-block
invariant-loop-block l = earlier l.found (first cause.UnfollowedBits (rows_of_blocks (drop l.block-index l.blocks))) ≡ first cause.UnfollowedBits (rows_of_blocks l.blocks)
