use Rattle.std.proofs.Common.{◌≡◌, drop}
use Rattle.show.specs.Labels.{then, labels_in, labels_of_cases}
use Rattle.show.proofs.label_walk.+label_walk.Given as goal

abbrev pub invariant-add_cases-loop-case : goal.invariant-add_cases-loop-case
invariant-add_cases-loop-case l = then l.labels (labels_of_cases l.templates (drop l.case-index l.cases)) ≡ then l.fn.labels (labels_of_cases l.templates l.cases)

abbrev pub invariant-add_elements-loop-element : goal.invariant-add_elements-loop-element
invariant-add_elements-loop-element l = then l.labels (labels_in l.templates (drop l.element-index l.elements)) ≡ then l.fn.labels (labels_in l.templates l.elements)
