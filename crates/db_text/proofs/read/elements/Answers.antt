use Rattle.std.proofs.Common.{sym, ◌∙◌}
use Rattle.db_text.proofs.Passes.{text_by, is_built}
use Rattle.db_text.proofs.read.elements.Goals as goal

pub unreachable-requires : goal.unreachable-requires
unreachable-requires c = is_built c.args.text.now c.requires.bound c.requires.whole (sym c.in_ok-node.ensures ∙ c.in-None.is)

pub returns : goal.returns
returns c = text_by c.args.text.now c.requires.bound c.in-Some.node c.requires.whole (sym c.in_ok-node.ensures ∙ c.in-Some.is)
