use Rattle.db_examples.proofs.Rules.{note_is_innermost}
use Rattle.db_examples.proofs.note_is_innermost.Goals as goal

pub returns : goal.returns
returns c = note_is_innermost
