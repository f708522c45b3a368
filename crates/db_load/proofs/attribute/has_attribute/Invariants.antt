use Rattle.std.proofs.Common.{◌≡◌, drop}
use Rattle.db_load.specs.Faults
use Rattle.db_load.proofs.attribute.has_attribute.Given as goal

abbrev pub invariant-loop-attribute : goal.invariant-loop-attribute
invariant-loop-attribute l = Faults.has_attribute (drop l.attribute-index l.attributes) l.name ≡ Faults.has_attribute l.attributes l.name
