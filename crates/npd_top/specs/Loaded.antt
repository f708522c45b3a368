-- What the loading of a database file finds.
use Rattle.std.specs.Prelude.{◌≡◌, ℕ, List, Result, Ok, Err}
use Rattle.db_model.specs.declared.database.Database as model
use Rattle.pipeline.specs.declared.status.Status.{Status}
use Rattle.pipeline.specs.declared.status.Status.TheVariants.{Database}
use Rattle.npd_top.specs.declared.totals.Totals.{Totals}
use Rattle.npd_top.specs.Accepted.{IsAccepted, HasAccepted, IsRefused}
use Rattle.npd_top.specs.CheckRun.{totals_of}

-- what a text is, by how the loading and the checking of it ended
abbrev pub DatabaseIs : Result model.Database Status → List ℕ → Type 0
DatabaseIs (Ok db) text = IsAccepted text db
DatabaseIs (Err (Database line code)) text = IsRefused text line code
DatabaseIs (Err other) text = Unit {0}

-- the same, where it is counted what the database declares
abbrev pub TotalsAre : Result Totals Status → List ℕ → Type 0
TotalsAre (Ok totals) text = (found : HasAccepted text) × (totals ≡ totals_of found.db)
TotalsAre (Err (Database line code)) text = IsRefused text line code
TotalsAre (Err other) text = Unit {0}
