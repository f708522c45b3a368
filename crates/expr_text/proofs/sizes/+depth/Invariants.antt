use Rattle.std.proofs.Common.{◌≡◌, ◌<◌, ◌^◌, max, map, fold, drop}
use Rattle.db_model.specs.Forms.{depth_of, deepest}
use Rattle.expr_text.specs.Sizes.{capped}
use Rattle.expr_text.proofs.sizes.+depth.Given as goal

abbrev pub invariant-deepest-loop-key : goal.invariant-deepest-loop-key
invariant-deepest-loop-key l =
    (capped (fold max l.most (map depth_of (drop l.key-index l.keys))) ≡ capped (deepest (map depth_of l.keys))) × (l.most < 2 ^ 32)
