-- The line that a trace has for a packet.
use Rattle.std.specs.Prelude.{ℕ, List, ◌++◌, codes, decimal, Option, Some, None}
use Rattle.db_model.specs.declared.question.Answer.{Answer}
use Rattle.db_model.specs.declared.question.Answer.TheVariants.{Miss, Hit, Done}
use Rattle.engine.specs.declared.receipt.Outcome.{Outcome}
use Rattle.engine.specs.declared.receipt.Outcome.TheVariants.{Kept, Again, Direct}
use Rattle.engine.specs.declared.receipt.Receipt.{Receipt}
use Rattle.engine.specs.declared.receipt.Taken.{Taken}
use Rattle.engine.specs.declared.receipt.Why.{Why}
use Rattle.engine.specs.declared.receipt.Why.TheVariants.{Serial, GaveUp, NoMemory}

-- v and c, where the packet was taken
abbrev pub taken_text : Option Taken → List ℕ
taken_text None = codes "- -"
taken_text (Some taken) = decimal taken.v ++ (codes " " ++ decimal taken.c)

abbrev pub answer_word : Answer → List ℕ
answer_word Miss = codes "miss"
answer_word (Hit row) = codes "hit"
answer_word Done = codes "done"

abbrev pub why_word : Why → List ℕ
why_word Serial = codes "direct"
why_word GaveUp = codes "gaveup"
why_word NoMemory = codes "nomemory"

-- of a packet that was decoded again, the place of the first question that differed and both answers
abbrev pub outcome_text : Outcome → List ℕ
outcome_text Kept = codes "kept"
outcome_text (Again index old new) = codes "again " ++ (decimal index ++ (codes " " ++ (answer_word old ++ (codes " " ++ answer_word new))))
outcome_text (Direct why) = why_word why

-- the number, when it was taken, and how it was settled
abbrev pub trace_line : Receipt → List ℕ
trace_line receipt = decimal receipt.number ++ (codes " " ++ (taken_text receipt.taken ++ (codes " " ++ (outcome_text receipt.outcome ++ codes "\n"))))
