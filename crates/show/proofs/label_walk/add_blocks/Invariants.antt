use Rattle.std.proofs.Common.{◌≡◌, drop}
use Rattle.show.specs.Labels.{then, labels_of_blocks}
use Rattle.show.proofs.label_walk.add_blocks.Given as goal

abbrev pub invariant-loop-block : goal.invariant-loop-block
invariant-loop-block l = then l.labels (labels_of_blocks l.templates (drop l.block-index l.blocks)) ≡ then l.fn.labels (labels_of_blocks l.templates l.blocks)
