-- The memory that a table holds ready for values: how many of them, and of how many bytes each.
use Rattle.std.specs.Prelude.{ℕ, ◌≤◌, min, max, List, [], ◌∷◌, length, map, Option, Some, None, vec_capacity}
use Rattle.std.specs.List.{All}
use Rattle.db_model.specs.declared.bytes.TheConstants.{MOST_BYTES}
use Rattle.db_model.specs.declared.database.ColumnDecl.{ColumnDecl}
use Rattle.db_model.specs.declared.database.TableDecl.{TableDecl}
use Rattle.db_model.specs.declared.value.Ty.{Ty}
use Rattle.db_model.specs.declared.value.Ty.TheVariants.{Num, Buf, Proto}
use Rattle.db_model.specs.declared.value.Value.{Value}
use Rattle.db_model.specs.Expression.{buf}
use Rattle.db_model.specs.Table.{KeyList}
use Rattle.table_list.specs.declared.space.Space.{Space}

-- the largest of some sizes
abbrev pub widest : List ℕ → ℕ
widest [] = 0
widest (s ∷ ss) = max s (widest ss)

abbrev pub width_of : Ty → Option ℕ → ℕ
width_of Num size = 0
width_of Buf None = MOST_BYTES
width_of Buf (Some size) = size
width_of Proto size = 0

-- the most bytes of a value of a column; only a value of bytes has any
abbrev pub column_width : ColumnDecl → ℕ
column_width c = width_of c.ty c.size

-- what the keys of an entry take, and what its row takes
abbrev pub key_space : TableDecl → Space
key_space d = record { count = length d.keys; width = widest (map (λ k. k.size) d.keys) }

abbrev pub row_space : TableDecl → Space
row_space d = record { count = length d.columns; width = widest (map column_width d.columns) }

-- there is room for the keys
pub record HoldsKeys (s : Space) (keys : KeyList) : Type 0 where
  pub few : length keys ≤ s.count
  pub short : All (λ k. length k ≤ s.width) keys

-- a value has at most so many bytes; it never has more than bytes can have
abbrev pub IsShort : ℕ → Value → Type 0
IsShort width v = min (length (buf v)) MOST_BYTES ≤ width

-- there is room for the row
pub record HoldsRow (s : Space) (row : List Value) : Type 0 where
  pub few : length row ≤ s.count
  pub short : All (IsShort s.width) row
