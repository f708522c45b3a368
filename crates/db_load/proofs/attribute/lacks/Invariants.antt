use Rattle.std.proofs.Common.{◌≡◌, drop}
use Rattle.std.specs.Option.{option_copied}
use Rattle.db_load.specs.Faults
use Rattle.db_load.proofs.attribute.lacks.Given as goal

abbrev pub invariant-loop-rule : goal.invariant-loop-rule
invariant-loop-rule l = Faults.lacks (option_copied l.decided) l.attributes (drop l.rule-index l.rules) ≡ Faults.lacks (option_copied l.decided) l.attributes l.rules
