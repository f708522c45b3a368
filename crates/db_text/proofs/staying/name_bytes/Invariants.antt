use Rattle.std.proofs.Common.{◌≡◌, true, take}
use Rattle.std.specs.List.{list_all}
use Rattle.db_text.specs.Machine
use Rattle.db_text.specs.declared.mode.Mode.TheVariants.{AttributeName}
use Rattle.db_text.proofs.staying.name_bytes.Given as goal

abbrev pub invariant-loop-i : goal.invariant-loop-i
invariant-loop-i l = list_all (Machine.keeps AttributeName) (take l.i l.text) ≡ true
