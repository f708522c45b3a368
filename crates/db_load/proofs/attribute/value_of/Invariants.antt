use Rattle.std.proofs.Common.{◌≡◌, drop}
use Rattle.db_load.specs.Faults
use Rattle.db_load.specs.Words.{spelled}
use Rattle.db_load.proofs.attribute.value_of.Given as goal

abbrev pub invariant-loop-attribute : goal.invariant-loop-attribute
invariant-loop-attribute l = Faults.value_of (drop l.attribute-index l.attributes) (spelled l.word) ≡ Faults.value_of l.attributes (spelled l.word)
