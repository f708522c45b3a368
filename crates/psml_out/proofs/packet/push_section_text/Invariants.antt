use Rattle.std.proofs.Common.{◌≡◌, ◌++◌, take}
use Rattle.std.specs.List.{flat_map}
use Rattle.show.specs.Markup.{escaped}
use Rattle.psml_out.specs.Psml.{proto_text}
use Rattle.psml_out.proofs.packet.push_section_text.Given as goal

abbrev pub invariant-loop-proto : goal.invariant-loop-proto
invariant-loop-proto l = l.text.items ≡ l.fn.text.items ++ escaped (flat_map (proto_text l.source.db.now l.source.packet.now l.section) (take l.proto-index l.tree))
