use Rattle.std.proofs.Common.{◌≡◌, drop}
use Rattle.db_model.specs.Name.{among}
use Rattle.db_model.proofs.naming.among.Given as goal

abbrev pub invariant-loop-word : goal.invariant-loop-word
invariant-loop-word l = among (drop l.word-index l.words) l.text ≡ among l.words l.text
