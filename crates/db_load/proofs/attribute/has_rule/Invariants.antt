use Rattle.std.proofs.Common.{◌≡◌, drop}
use Rattle.std.specs.Option.{option_copied}
use Rattle.db_load.specs.Faults
use Rattle.db_load.proofs.attribute.has_rule.Given as goal

abbrev pub invariant-loop-rule : goal.invariant-loop-rule
invariant-loop-rule l = Faults.has_rule (option_copied l.decided) (drop l.rule-index l.rules) l.name ≡ Faults.has_rule (option_copied l.decided) l.rules l.name
