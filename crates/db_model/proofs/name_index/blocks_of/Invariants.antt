use Rattle.std.proofs.Common.{map, take}
use Rattle.db_model.specs.NameIndex.{AllPlaces, block_names}
use Rattle.db_model.proofs.name_index.blocks_of.Given as goal

abbrev pub invariant-loop-protocol : goal.invariant-loop-protocol
invariant-loop-protocol l = AllPlaces (map block_names (take l.protocol-index l.protocols)) l.all
