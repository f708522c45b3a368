use Rattle.std.proofs.Common.{◌≡◌, map, take}
use Rattle.show.specs.Labels.{labels_of_protocol}
use Rattle.show.proofs.labels.Labels.of.Given as goal

abbrev pub invariant-loop-protocol : goal.invariant-loop-protocol
invariant-loop-protocol l = l.protocols ≡ map (labels_of_protocol l.database.show_templates) (take l.protocol-index l.database.protocols)
