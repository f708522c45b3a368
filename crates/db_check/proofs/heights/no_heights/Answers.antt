use Rattle.std.proofs.Common.{◌∙◌, ap, length}
use Rattle.db_model.specs.Numbering.{blocks_in}
use Rattle.db_check.proofs.Filled.{all_same}
use Rattle.db_check.proofs.heights.no_heights.Goals as goal

pub returns : goal.returns
returns c =
    let blocks = blocks_in c.args.home.now.protocol.now.format in
    c.from_vec.ensures ∙ (c.in_ok-vec.ensures.items_if_clones_equal (λ y e. e) ∙ all_same blocks (length c.named_blocks-count.result.now) 0 (ap length c.named_blocks-count.ensures))
