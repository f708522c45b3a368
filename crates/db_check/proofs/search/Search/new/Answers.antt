use Rattle.std.proofs.Common.{◌∙◌, false}
use Rattle.db_check.specs.Graph.{unmarked}
use Rattle.db_check.proofs.Filled.{all_same}
use Rattle.db_check.proofs.search.Search.new.Goals as goal

pub returns : goal.returns
unfolding unmarked
returns c = λ i. record {
  marks = (c.from_vec.ensures ∙ (c.in_ok-marks.ensures.items_if_clones_equal (λ y e. e) ∙ all_same c.args.graph.now c.len.result false c.len.ensures)) i;
  queue = c.new.ensures i;
}
