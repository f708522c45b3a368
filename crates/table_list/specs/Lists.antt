-- A table as two lists: what it is seen as, what it keeps, and what its own calls do to a part.
use Rattle.std.specs.Prelude.{◌≡◌, ℕ, ◌+◌, ◌≤◌, Bool, true, false, List, [], ◌∷◌, ◌++◌, length, slice_set, vec_len, vec_capacity}
use Rattle.std.specs.List.{All}
use Rattle.db_model.specs.declared.database.TableDecl.{TableDecl}
use Rattle.db_model.specs.declared.entry.Entry.{Entry}
use Rattle.db_model.specs.Fitting.{exact_fits, masked_fits, table_fits}
use Rattle.db_model.specs.Kept.{Kept}
use Rattle.db_model.specs.Table.{Parts, empty}
use Rattle.table_list.specs.declared.blank.Ready.{Ready}
use Rattle.table_list.specs.declared.lists.Lists.{Lists}
use Rattle.table_list.specs.declared.search.Place.{Place}
use Rattle.table_list.specs.declared.search.Place.TheVariants.{Exact, Masked}
use Rattle.table_list.specs.declared.space.Space.{Space}
use Rattle.table_list.specs.Ready.{ready}
use Rattle.table_list.specs.Space.{key_space, row_space}

-- ---- one part of a table: the masked one, or the exact one

abbrev pub part : Bool → Parts → List Entry
part false t = t.exact
part true t = t.masked

-- its declared greatest length
abbrev pub limit : Bool → TableDecl → ℕ
limit false d = d.exact_entries
limit true d = d.mask_entries

-- what each of its entries has: masks exactly in the masked part, where the keys are already masked, and a deadline exactly where the kind of entry has one
abbrev pub part_fits : Bool → TableDecl → Entry → Bool
part_fits false d e = exact_fits d e
part_fits true d e = masked_fits d e

-- the table with the entry at the part's end
abbrev pub appended : Bool → Entry → Parts → Parts
appended false e t = record t { exact = t.exact ++ e ∷ [] }
appended true e t = record t { masked = t.masked ++ e ∷ [] }

-- the table with the entry at a place
abbrev pub replaced : Place → Entry → Parts → Parts
replaced (Exact at) e t = record t { exact = slice_set t.exact at e }
replaced (Masked at) e t = record t { masked = slice_set t.masked at e }

-- ---- what a table keeps

-- what its lists hold
abbrev pub content : Lists → Parts
content l = record { exact = l.exact.items; masked = l.masked.items }

-- each part can grow by so many entries without memory
pub record HasRoom (n : ℕ) (l : Lists) : Type 0 where
  pub exact : vec_len l.exact + n ≤ vec_capacity l.exact
  pub masked : vec_len l.masked + n ≤ vec_capacity l.masked

-- its entries fit the declaration and are apart; for each call for which it is ready it has memory of the declared sizes, and room in each part
pub record IsSound (d : TableDecl) (keys row : Space) (l : Lists) (rs : List Ready) : Type 0 where
  pub keys_space : keys ≡ key_space d
  pub row_space : row ≡ row_space d
  pub fits : table_fits d (content l) ≡ true
  pub kept : Kept d (content l)
  pub ready : All (λ r. r ≡ ready keys row) rs
  pub room : HasRoom (length rs) l
