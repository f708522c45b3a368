-- Which texts are those of an element, and for every other the line and the code of its first fault.
use Rattle.std.specs.Prelude.{ℕ, ◌<◌, ◌≤◌, ◌≡◌, ◌==◌, if◌then◌else◌, List, ◌++◌, length, take, Some, None}
use Rattle.db_cause.specs.declared.cause.Cause.TheVariants as cause
use Rattle.db_cause.specs.Codes
use Rattle.db_text.specs.declared.limits.TheConstants.{MOST_TEXT_BYTES}
use Rattle.db_text.specs.declared.node.Node.{Node}
use Rattle.db_text.specs.Grammar.{Document}
use Rattle.db_text.specs.Text.{placed, line_behind}
use Rattle.db_text.specs.Tree.{too_deep}

-- the text is in the grammar, and this is its top element
abbrev pub IsSpelled : List ℕ → Node → Type 0
IsSpelled bytes n = Document n (placed 1 bytes)

-- the text is that of the element, within all limits
pub record IsText (bytes : List ℕ) (n : Node) : Type 0 where
  pub within : length bytes ≤ MOST_TEXT_BYTES
  pub spelled : IsSpelled bytes n
  pub deep : too_deep n 1 ≡ None

-- some text of the grammar goes on from these bytes
abbrev pub Viable : List ℕ → Type 0
Viable front = (more : List ℕ) × (n : Node) × IsSpelled (front ++ more) n

-- The text isn't in the grammar. Its longest front from which some text of the grammar goes on ends at a place:
-- the line is that of the place, and the text ends early where this front is the whole of it
pub record IsFaulty (bytes : List ℕ) (line code : ℕ) : Type 0 where
  pub outside : (n : Node) → ¬ IsSpelled bytes n
  pub at : ℕ
  pub within : at ≤ length bytes
  pub viable : Viable (take at bytes)
  pub longest : (other : ℕ) → other ≤ length bytes → Viable (take other bytes) → other ≤ at
  pub line_is : line ≡ line_behind 1 (take at bytes)
  pub code_is : code ≡ Codes.code (if at == length bytes then cause.UnexpectedEnd else cause.UnexpectedByte)

-- the text is in the grammar, and this is the line of the first element that stands too deep
pub record IsTooDeep (bytes : List ℕ) (line : ℕ) : Type 0 where
  pub element : Node
  pub spelled : IsSpelled bytes element
  pub deep : too_deep element 1 ≡ Some line

-- the text is refused with this line and this code
pub data IsRefused (bytes : List ℕ) (line code : ℕ) : Type 0 where
  too_long : MOST_TEXT_BYTES < length bytes → line ≡ 1 → code ≡ Codes.code cause.TextTooLong → IsRefused bytes line code
  faulty : length bytes ≤ MOST_TEXT_BYTES → IsFaulty bytes line code → IsRefused bytes line code
  too_deep_within : length bytes ≤ MOST_TEXT_BYTES → IsTooDeep bytes line → code ≡ Codes.code cause.TextTooDeep → IsRefused bytes line code
