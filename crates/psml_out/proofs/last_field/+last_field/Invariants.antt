use Rattle.std.proofs.Common.{◌≡◌, take}
use Rattle.show.specs.Labels.{labels_of}
use Rattle.psml_out.specs.Fields.{last_field}
use Rattle.psml_out.proofs.last_field.+last_field.Given as goal

abbrev pub invariant-last_field-loop-i : goal.invariant-last_field-loop-i
invariant-last_field-loop-i l = last_field (labels_of l.db) l.protocol l.name (take l.i l.nodes) ≡ last_field (labels_of l.db) l.protocol l.name l.nodes
