-- What the machine makes of a text. No public clause names it.
use Rattle.std.specs.Prelude.{◌≡◌, ℕ, List, [], ◌∷◌, if◌then◌else◌, Option, Some, None, Result, Ok, Err}
use Rattle.db_cause.specs.declared.cause.Cause.TheVariants as cause
use Rattle.db_cause.specs.Codes
use Rattle.db_text.specs.declared.fail.TextFail.{TextFail}
use Rattle.db_text.specs.declared.fail.TextFail.TheVariants as fail
use Rattle.db_text.specs.declared.mode.Mode.{Mode}
use Rattle.db_text.specs.declared.mode.Mode.TheVariants as mode
use Rattle.db_text.specs.declared.mode.Move.{Move}
use Rattle.db_text.specs.declared.node.Node.{Node}
use Rattle.db_text.specs.declared.notes.Notes.{Notes}
use Rattle.db_text.specs.declared.parts.Parts.{Parts}
use Rattle.db_text.specs.Machine.{no_notes, no_parts, decide, noted, parted, is_whole}
use Rattle.db_text.specs.Text.{next_line}

-- the line of the first element that stands too deep, if there is one; or the line and the code of a fault
abbrev pub Answer : Type 0
Answer = Result (Option ℕ) (ℕ × ℕ)

-- behind a byte on a line
abbrev pub after : ℕ → Notes → (Mode → Notes → Answer) → Option Move → Answer
after line n next None = Err (line, Codes.code cause.UnexpectedByte)
after line n next (Some v) = next v.mode (noted v.act n)

abbrev pub at_end : ℕ → Mode → Notes → Answer
at_end line m n = if is_whole m n then Ok n.deep else Err (line, Codes.code cause.UnexpectedEnd)

-- of bytes that begin on a line
unfoldable pub outcome : ℕ → Mode → Notes → List ℕ → Answer
outcome line m n [] = at_end line m n
outcome line m n (b ∷ bs) = after line n (λ m' n'. outcome (next_line line b) m' n' bs) (decide m n line b)

abbrev pub after_part : Notes → Parts → (Mode → Notes → Parts → Option Node) → Option Move → Option Node
after_part n q next None = None
after_part n q next (Some v) = next v.mode (noted v.act n) (parted v.act n q)

-- the element that the bytes make
unfoldable pub built : ℕ → Mode → Notes → Parts → List ℕ → Option Node
built line m n q [] = q.top
built line m n q (b ∷ bs) = after_part n q (λ m' n' q'. built (next_line line b) m' n' q' bs) (decide m n line b)

-- on any line and with any notes, the rest of the bytes has their outcome
abbrev pub KeepsOutcome : Mode → List ℕ → List ℕ → Type 0
KeepsOutcome m bs rest = (line : ℕ) (n : Notes) → outcome line m n rest ≡ outcome line m n bs

-- on any line and with any notes, the later parts and the rest of the bytes make the same element
abbrev pub KeepsElement : Mode → Parts → List ℕ → Parts → List ℕ → Type 0
KeepsElement m q bs later rest = (line : ℕ) (n : Notes) → built line m n later rest ≡ built line m n q bs

abbrev pub text_outcome : List ℕ → Answer
text_outcome bytes = outcome 1 mode.Start no_notes bytes

abbrev pub text_built : List ℕ → Option Node
text_built bytes = built 1 mode.Start no_notes no_parts bytes

-- the answer is the outcome
abbrev pub Told : Result (Option ℕ) TextFail → Answer → Type 0
Told (Ok deep) a = a ≡ Ok deep
Told (Err (fail.Fault line code)) a = a ≡ Err (line, code)
Told (Err fail.NoMemory) a = Unit {0}

-- a byte on a line was taken, or is at fault
abbrev pub Advanced : ℕ → Mode → Notes → ℕ → Result Mode TextFail → Notes → Type 0
Advanced line m n b (Ok m') n' = (next : Mode → Notes → Answer) → after line n next (decide m n line b) ≡ next m' n'
Advanced line m n b (Err (fail.Fault at code)) n' = (next : Mode → Notes → Answer) → after line n next (decide m n line b) ≡ Err (at, code)
Advanced line m n b (Err fail.NoMemory) n' = Unit {0}

abbrev pub follow : Option Mode → Notes → Parts → (Mode → Notes → Parts → Option Node) → Option Node
follow None n q next = None
follow (Some m) n q next = next m n q

-- a byte on a line was taken, if there is a mode
abbrev pub Built : ℕ → Mode → Notes → Parts → ℕ → Option Mode → Notes → Parts → Type 0
Built line m n q b o n' q' = (next : Mode → Notes → Parts → Option Node) → after_part n q next (decide m n line b) ≡ follow o n' q' next
