-- What holds of a table to which entries were only put: no two entries of a part have the same keys and masks, and no part is longer than declared.
use Rattle.std.specs.Prelude.{◌≡◌, ℕ, ◌≤◌, List, length, slice_get, fold, Some}
use Rattle.db_model.specs.declared.database.TableDecl.{TableDecl}
use Rattle.db_model.specs.declared.entry.Entry.{Entry}
use Rattle.db_model.specs.Table.{Parts, empty, put}

-- two entries with the same keys and masks stand at one place
abbrev pub IsApart : List Entry → Type 0
IsApart es = (i j : ℕ) (d e : Entry) → slice_get es i ≡ Some d → slice_get es j ≡ Some e → d.keys ≡ e.keys → d.masks ≡ e.masks → i ≡ j

pub record Kept (d : TableDecl) (t : Parts) : Type 0 where
  pub exact_apart : IsApart t.exact
  pub masked_apart : IsApart t.masked
  pub exact_room : length t.exact ≤ d.exact_entries
  pub masked_room : length t.masked ≤ d.mask_entries

-- the table to which these entries were put in order
abbrev pub made_by_put : TableDecl → List Entry → Parts
made_by_put d es = fold (put d) empty es
