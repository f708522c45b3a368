use Rattle.std.proofs.Common.{◌≡◌, drop}
use Rattle.std.specs.Option.{option_copied}
use Rattle.db_load.specs.Faults
use Rattle.db_load.proofs.attribute.breaks.Given as goal

abbrev pub invariant-loop-rule : goal.invariant-loop-rule
invariant-loop-rule l = Faults.breaks l.parsed (option_copied l.decided) (drop l.rule-index l.rules) l.attribute ≡ Faults.breaks l.parsed (option_copied l.decided) l.rules l.attribute
