use Rattle.std.proofs.Common.{arith}
use Rattle.psml_out.proofs.BySection.{one_more_piece}
use Rattle.psml_out.proofs.summaries.contents_for.Goals as goal

pub loop-piece-preserved : goal.loop-piece-preserved
loop-piece-preserved c =
    one_more_piece c.args.section c.args.pieces.now c.loop-piece.piece-index c.piece-item.result c.loop-piece.all c.add_content.new.all (omega arith) c.piece-item.is c.loop-piece.invariant c.in_ok-add_content.ensures
