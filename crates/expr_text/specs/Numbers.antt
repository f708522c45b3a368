-- Texts that are a number and nothing else.
use Rattle.std.specs.Prelude.{ℕ, ◌==◌, if◌then◌else◌, List, [], ◌∷◌, length, Option, Some, None}
use Rattle.std.specs.Char.{is_ascii_digit}
use Rattle.expr_text.specs.declared.lexeme.Lexeme.{Lexeme}
use Rattle.expr_text.specs.declared.lexeme.Lexeme.TheVariants as lexeme
use Rattle.expr_text.specs.declared.lexeme.Scanned.{Scanned}
use Rattle.expr_text.specs.declared.token.Token.TheVariants as token
use Rattle.expr_text.specs.Lexing.{number}

-- the number that a lexeme is
abbrev pub value_in : Lexeme → Option ℕ
value_in (lexeme.Token (token.Number n)) = Some n
value_in _ = None

-- the same of one that is all of a text of so many bytes
abbrev pub value_of_all : ℕ → Scanned → Option ℕ
value_of_all size s = if s.size == size then value_in s.lexeme else None

-- the number that a whole text is: one token of an expression, in decimal or in hex behind `0x`
unfoldable pub number_of : List ℕ → Option ℕ
number_of [] = None
number_of (b ∷ bs) = if is_ascii_digit b then value_of_all (length (b ∷ bs)) (number (b ∷ bs)) else None
