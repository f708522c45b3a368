use Rattle.std.proofs.Common.{◌≡◌, ◌++◌, take}
use Rattle.std.specs.List.{flat_map}
use Rattle.show.specs.Markup.{escaped}
use Rattle.psml_out.specs.Psml.{content_text}
use Rattle.psml_out.proofs.pieces.push_contents.Given as goal

abbrev pub invariant-loop-content : goal.invariant-loop-content
invariant-loop-content l = l.text.items ≡ l.fn.text.items ++ escaped (flat_map (content_text l.source.db.now l.source.packet.now l.proto) (take l.content-index l.contents))
