use Rattle.std.proofs.Common.{◌≡◌, ◌++◌, map}
use Rattle.std.specs.List.{flat_map, range_with_len}
use Rattle.psml_out.specs.Psml.{section_line, section_text}
use Rattle.psml_out.proofs.packet.push_sections.Given as goal

abbrev pub invariant-loop-section : goal.invariant-loop-section
invariant-loop-section l = l.text.items ≡ l.fn.text.items ++ flat_map section_line (map (section_text l.source.db.now l.source.packet.now l.tree) (range_with_len 0 l.section))
