use Rattle.std.proofs.Common.{◌≡◌, map, take}
use Rattle.db_model.specs.declared.database.NamedBlock.{NamedBlock}
use Rattle.db_model.specs.NameFaults.{block_names}
use Rattle.db_model.specs.Numbering.{blocks_in}
use Rattle.db_check.specs.Heights.{raised, height_in, height_at}
use Rattle.db_check.proofs.heights.next_heights.Given as goal

abbrev pub invariant-loop-block : goal.invariant-loop-block
invariant-loop-block l = l.next ≡ map (λ (b : NamedBlock). raised (height_in (height_at (block_names l.home.protocol.now) l.heights) b.body)) (take l.block-index (blocks_in l.home.protocol.now.format))
