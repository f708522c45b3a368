use Rattle.std.proofs.Common.{◌≡◌, drop}
use Rattle.db_load.specs.Forms
use Rattle.db_load.proofs.choice.is_choice.Given as goal

abbrev pub invariant-loop-word : goal.invariant-loop-word
invariant-loop-word l = Forms.is_choice l.value (drop l.word-index l.words) ≡ Forms.is_choice l.value l.words
