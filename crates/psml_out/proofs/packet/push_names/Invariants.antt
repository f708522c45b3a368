use Rattle.std.proofs.Common.{◌≡◌, ◌++◌, take}
use Rattle.std.specs.List.{flat_map}
use Rattle.psml_out.specs.Psml.{name_line}
use Rattle.psml_out.proofs.packet.push_names.Given as goal

abbrev pub invariant-loop-section : goal.invariant-loop-section
invariant-loop-section l = l.text.items ≡ l.fn.text.items ++ flat_map name_line (take l.section-index l.declared)
