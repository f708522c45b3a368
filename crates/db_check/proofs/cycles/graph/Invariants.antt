use Rattle.std.proofs.Common.{◌≡◌, map, take}
use Rattle.db_model.specs.declared.database.NamedBlock.{NamedBlock}
use Rattle.db_model.specs.BlockFaults.{includes_in}
use Rattle.db_model.specs.NameFaults.{block_names}
use Rattle.db_model.specs.Numbering.{blocks_in}
use Rattle.db_check.specs.Graph.{numbers}
use Rattle.db_check.proofs.cycles.graph.Given as goal

abbrev pub invariant-loop-block : goal.invariant-loop-block
invariant-loop-block l = l.graph ≡ map (λ (b : NamedBlock). numbers (block_names l.home.protocol.now) (includes_in b.body)) (take l.block-index (blocks_in l.home.protocol.now.format))
