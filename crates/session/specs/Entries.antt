-- The entries of a session, one by one.
use Rattle.std.specs.Prelude.{ℕ, Bool, false, ◌&&◌, List, [], slice_get, slice_set, Option, Some, None}
use Rattle.db_model.specs.declared.database.Database.{Database}
use Rattle.db_model.specs.declared.database.TableDecl.{TableDecl}
use Rattle.db_model.specs.declared.entry.Entry.{Entry}
use Rattle.db_model.specs.Fitting.{row_declared}
use Rattle.db_model.specs.Session.{Session}
use Rattle.db_model.specs.Table.{Parts}
use Rattle.table_list.specs.Lists.{part, limit, part_fits, appended}

abbrev pub part_of : Bool → Option Parts → List Entry
part_of masked None = []
part_of masked (Some t) = part masked t

-- the masked part of the table of this number, or the exact one
abbrev pub part_in : Session → ℕ → Bool → List Entry
part_in s n masked = part_of masked (slice_get s n)

-- its entry at a place
abbrev pub entry_in : Session → ℕ → Bool → ℕ → Option Entry
entry_in s n masked at = slice_get (part_in s n masked) at

abbrev pub limit_of : Bool → Option TableDecl → ℕ
limit_of masked None = 0
limit_of masked (Some d) = limit masked d

-- its declared greatest length
abbrev pub limit_in : Database → ℕ → Bool → ℕ
limit_in db n masked = limit_of masked (slice_get db.tables n)

abbrev pub fits_by : Database → Bool → Option TableDecl → Entry → Bool
fits_by db masked None e = false
fits_by db masked (Some d) e = part_fits masked d e && row_declared db e.row

-- the table of this number is declared, the entry is such as the part keeps, and each protocol in its row is a declared one
abbrev pub fits_in : Database → ℕ → Bool → Entry → Bool
fits_in db n masked e = fits_by db masked (slice_get db.tables n) e

abbrev pub filled_by : Option Parts → Session → ℕ → Bool → Entry → Session
filled_by None s n masked e = s
filled_by (Some t) s n masked e = slice_set s n (appended masked e t)

-- the session with the entry at the part's end
abbrev pub filled : Session → ℕ → Bool → Entry → Session
filled s n masked e = filled_by (slice_get s n) s n masked e
