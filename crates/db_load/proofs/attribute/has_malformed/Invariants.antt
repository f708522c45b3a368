use Rattle.std.proofs.Common.{◌≡◌, drop}
use Rattle.std.specs.Option.{option_copied}
use Rattle.db_load.specs.Faults
use Rattle.db_load.proofs.attribute.has_malformed.Given as goal

abbrev pub invariant-loop-attribute : goal.invariant-loop-attribute
invariant-loop-attribute l = Faults.has_malformed l.parsed (option_copied l.decided) l.rules (drop l.attribute-index l.attributes) ≡ Faults.has_malformed l.parsed (option_copied l.decided) l.rules l.attributes
