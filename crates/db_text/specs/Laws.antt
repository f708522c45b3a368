-- The laws of the answers: each text has one, and it excludes every other.
use Rattle.std.specs.Prelude.{◌≡◌, ◌⊎◌, ℕ, List}
use Rattle.db_text.specs.declared.node.Node.{Node}
use Rattle.db_text.specs.Refusal.{IsText, IsRefused}

-- a text is that of an element, or is refused with a line and a code
abbrev pub HasAnswer : Type 0
HasAnswer = (bytes : List ℕ) → ((n : Node) × IsText bytes n) ⊎ ((line : ℕ) × (code : ℕ) × IsRefused bytes line code)

-- a text is that of one element at most
abbrev pub OneElement : Type 0
OneElement = (bytes : List ℕ) (n m : Node) → IsText bytes n → IsText bytes m → n ≡ m

-- a text that is an element's is not refused
abbrev pub ExcludesRefusal : Type 0
ExcludesRefusal = (bytes : List ℕ) (n : Node) (line code : ℕ) → IsText bytes n → IsRefused bytes line code → ⊥

-- a text is refused with one line and one code at most
abbrev pub OneRefusal : Type 0
OneRefusal = (bytes : List ℕ) (line code line' code' : ℕ) → IsRefused bytes line code → IsRefused bytes line' code' → (line ≡ line') × (code ≡ code')
