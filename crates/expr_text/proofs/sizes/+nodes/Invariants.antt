use Rattle.std.proofs.Common.{◌≡◌, ◌<◌, ◌+◌, ◌^◌, map, sum, drop}
use Rattle.db_model.specs.Forms.{nodes_of}
use Rattle.expr_text.specs.Sizes.{capped}
use Rattle.expr_text.proofs.sizes.+nodes.Given as goal

abbrev pub invariant-nodes_in-loop-key : goal.invariant-nodes_in-loop-key
invariant-nodes_in-loop-key l =
    (capped (l.sum + sum (map nodes_of (drop l.key-index l.keys))) ≡ capped (sum (map nodes_of l.keys))) × (l.sum < 2 ^ 32)
