-- What an answer of the reader says of the text.
use Rattle.std.specs.Prelude.{ℕ, List, Result, Ok, Err}
use Rattle.db_text.specs.declared.fail.TextFail.{TextFail}
use Rattle.db_text.specs.declared.fail.TextFail.TheVariants as fail
use Rattle.db_text.specs.declared.node.Node.{Node}
use Rattle.db_text.specs.Refusal.{IsText, IsRefused}

-- an element is that of the text, and a fault is the text's first one; want of memory is free
abbrev pub Answers : List ℕ → Result Node TextFail → Type 0
Answers bytes (Ok n) = IsText bytes n
Answers bytes (Err (fail.Fault line code)) = IsRefused bytes line code
Answers bytes (Err fail.NoMemory) = Unit {0}
