-- What is answered of a log that is asked again.
use Rattle.std.specs.Prelude.{Bool, true, false, Option, Some, None}
use Rattle.db_model.specs.declared.question.Answer.{Answer}
use Rattle.db_model.specs.Replay.{Difference, same_answer}
use Rattle.op_log.specs.declared.transcript.Check.{Check}
use Rattle.op_log.specs.declared.transcript.Check.TheVariants.{Agrees, Differs}

-- it agrees, or this is its first difference
abbrev pub answer_of : Option Difference → Check
answer_of None = Agrees
answer_of (Some d) = Differs d.place d.old d.new

-- a noted answer and a new one, where they aren't the same
abbrev pub unless : Bool → Answer → Answer → Option (Answer × Answer)
unless true old new = None
unless false old new = Some (old, new)

abbrev pub unless_same : Answer → Answer → Option (Answer × Answer)
unless_same old new = unless (same_answer new old) old new
