use Rattle.std.proofs.Common.{◌≡◌, map, take}
use Rattle.std.specs.Option.{option_map}
use Rattle.psml_out.specs.Summaries.{template_place}
use Rattle.psml_out.proofs.summaries.template_places.Given as goal

abbrev pub invariant-loop-protocol : goal.invariant-loop-protocol
invariant-loop-protocol l = l.places ≡ map (λ p. option_map (template_place l.templates) p.showsum) (take l.protocol-index l.database.protocols)
