-- What a table is seen as.
use Rattle.std.specs.Prelude.{ℕ}
use Rattle.db_model.specs.declared.database.TableDecl.{TableDecl}
use Rattle.db_model.specs.Table.{Parts, empty}

-- its declaration, its content, and the number of calls for which it has room
pub record State : Type 0 where
  pub declaration : TableDecl
  pub content : Parts
  pub spare : ℕ

-- a table to which nothing was added, without room
abbrev pub new_table : TableDecl → State
new_table d = record { declaration = d; content = empty; spare = 0 }
