use Rattle.std.proofs.Common.{◌≡◌, drop, take, []}
use Rattle.std.specs.Option.{option_copied}
use Rattle.db_load.specs.Faults
use Rattle.db_load.proofs.attribute.has_stray.Given as goal

abbrev pub invariant-loop-i : goal.invariant-loop-i
invariant-loop-i l = Faults.has_stray (option_copied l.decided) l.rules (take l.i l.attributes) (drop l.i l.attributes) ≡ Faults.has_stray (option_copied l.decided) l.rules [] l.attributes
