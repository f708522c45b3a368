use Rattle.std.proofs.Common.{◌≡◌, map, take}
use Rattle.db_model.specs.Numbering.{field_names}
use Rattle.db_model.proofs.name_index.fields_of.Given as goal

abbrev pub invariant-loop-protocol : goal.invariant-loop-protocol
invariant-loop-protocol l = l.all ≡ map field_names (take l.protocol-index l.protocols)
