-- A text as bytes with their lines, and the bytes of which names and values are made.
use Rattle.std.specs.Prelude.{ℕ, suc, Bool, false, ◌&&◌, ◌||◌, ◌==◌, not, nat_le, if◌then◌else◌, List, [], ◌∷◌, codes}
use Rattle.std.specs.Char.{is_ascii_alphabetic, is_ascii_alphanumeric}
use Rattle.std.specs.List.{list_all}
use Rattle.db_text.specs.declared.mode.Entity.{Entity}
use Rattle.db_text.specs.declared.mode.Entity.TheVariants as entity

-- ---- lines

-- a byte and the line on which it stands
pub record Placed : Type 0 where
  pub line : ℕ
  pub byte : ℕ

abbrev pub place : ℕ → ℕ → Placed
place line byte = record { line = line; byte = byte }

-- the line behind a byte on a line
abbrev pub next_line : ℕ → ℕ → ℕ
next_line line byte = if byte == 0x0A then suc line else line

-- bytes from a line on, of which each line end begins another
abbrev pub placed : ℕ → List ℕ → List Placed
placed line [] = []
placed line (b ∷ bs) = place line b ∷ placed (next_line line b) bs

-- the line behind bytes that begin on a line
abbrev pub line_behind : ℕ → List ℕ → ℕ
line_behind line [] = line
line_behind line (b ∷ bs) = line_behind (next_line line b) bs

-- ---- bytes

abbrev pub is_space : ℕ → Bool
is_space b = b == 0x09 || b == 0x0A || b == 0x0D || b == 0x20

abbrev pub is_letter : ℕ → Bool
is_letter b = is_ascii_alphabetic b

abbrev pub is_name_byte : ℕ → Bool
is_name_byte b = is_ascii_alphanumeric b || b == 0x2D

-- a letter, then letters, digits and hyphens
abbrev pub is_name : List ℕ → Bool
is_name [] = false
is_name (b ∷ bs) = is_letter b && list_all is_name_byte bs

-- what stands in a declaration: all but `?`, `<` and `>`
abbrev pub is_declared : ℕ → Bool
is_declared b = not (b == 0x3F || b == 0x3C || b == 0x3E)

abbrev pub begins_with : ℕ → List ℕ → Bool
begins_with byte [] = false
begins_with byte (b ∷ bs) = b == byte

-- there are two hyphens, one right behind the other
abbrev pub has_double : List ℕ → Bool
has_double [] = false
has_double (b ∷ bs) = (b == 0x2D && begins_with 0x2D bs) || has_double bs

-- ---- values

-- the two quotes
pub data Quote : ℕ → Type 0 where
  double : Quote 0x22
  single : Quote 0x27

-- what stands for itself in a value in these quotes
abbrev pub is_char : ℕ → ℕ → Bool
is_char quote b = (b == 0x09 || b == 0x0A || b == 0x0D || (nat_le 0x20 b && nat_le b 0x7E)) && not (b == 0x3C || b == 0x26 || b == quote)

-- a tab or a line end counts as a space
abbrev pub as_space : ℕ → ℕ
as_space b = if is_space b then 0x20 else b

abbrev pub entity_text : Entity → List ℕ
entity_text entity.Less = codes "&lt;"
entity_text entity.Greater = codes "&gt;"
entity_text entity.Ampersand = codes "&amp;"
entity_text entity.Quote = codes "&quot;"
entity_text entity.Apostrophe = codes "&apos;"

abbrev pub character : Entity → ℕ
character entity.Less = 0x3C
character entity.Greater = 0x3E
character entity.Ampersand = 0x26
character entity.Quote = 0x22
character entity.Apostrophe = 0x27
