-- What a search in a table finds.
use Rattle.std.specs.Prelude.{ℕ, List, slice_get, Option, Some, None}
use Rattle.db_model.specs.declared.entry.Entry.{Entry}
use Rattle.db_model.specs.Table.{Parts}
use Rattle.table_list.specs.declared.search.Place.{Place}
use Rattle.table_list.specs.declared.search.Place.TheVariants.{Exact, Masked}

-- the entry at a number that a search gave
abbrev pub entry_of : List Entry → Option ℕ → Option Entry
entry_of es None = None
entry_of es (Some at) = slice_get es at

-- the entry at a place of a table
abbrev pub entry_at_place : Parts → Place → Option Entry
entry_at_place t (Exact at) = slice_get t.exact at
entry_at_place t (Masked at) = slice_get t.masked at

abbrev pub entry_hit : Parts → Option Place → Option Entry
entry_hit t None = None
entry_hit t (Some place) = entry_at_place t place
