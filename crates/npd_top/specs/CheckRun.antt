-- What a check comes to: which status comes where, which files are opened, and what the output has taken then.
use Rattle.std.specs.Prelude.{◌⊎◌, ℕ, List, [], ◌∷◌, ◌++◌, length, codes, decimal, IfSome}
use Rattle.db_model.specs.declared.database.Database as model
use Rattle.npd_top.specs.declared.job.CheckFiles.{CheckFiles}
use Rattle.pipeline.specs.declared.status.Role.TheVariants.{Db, Out}
use Rattle.pipeline.specs.declared.status.Status.{Status}
use Rattle.pipeline.specs.declared.status.Status.TheVariants.{Done, Open, Read, Write, Database, NoMemory}
use Rattle.npd_top.specs.declared.totals.Totals.{Totals}
use Rattle.npd_top.specs.Accepted.{IsRefused, HasAccepted}
use Rattle.npd_top.specs.Outside.{Outside, Opened, WroteNothing}
use Rattle.npd_top.specs.Line.{standard, Wrote, WroteFront, WroteProper}

-- how much a database declares
abbrev pub totals_of : model.Database → Totals
totals_of db = record { protocols = length db.protocols; tables = length db.tables; variables = length db.variables }

-- the line that says so: `protocols P tables T variables V`
unfoldable pub totals_line : Totals → List ℕ
totals_line t =
    codes "protocols " ++ (decimal t.protocols ++ (codes " tables " ++ (decimal t.tables
    ++ (codes " variables " ++ (decimal t.variables ++ codes "\n")))))

-- the database file, where it is told, is accepted, and this holds of its line
abbrev pub FindsAccepted : CheckFiles → Outside → (List ℕ → Type 0) → Type 0
FindsAccepted files before Holds = IfSome (before.files files.db) (λ text. (found : HasAccepted text) × Holds (totals_line (totals_of found.db)))

-- what each status says of the file, and of the outputs before and after; all others never come
abbrev pub CheckSays : Status → CheckFiles → Outside → Outside → Type 0
CheckSays Done files before after = FindsAccepted files before (Wrote before.outputs after.outputs standard)
CheckSays (Open Db) files before after = WroteNothing before after
CheckSays (Open Out) files before after = WroteNothing before after × FindsAccepted files before (λ line. Unit {0})
CheckSays (Read Db) files before after = WroteNothing before after
CheckSays (Write Out) files before after = FindsAccepted files before (WroteProper before.outputs after.outputs standard)
CheckSays (Database line code) files before after =
    WroteNothing before after × IfSome (before.files files.db) (λ text. IsRefused text line code)
CheckSays NoMemory files before after =
    WroteNothing before after ⊎ FindsAccepted files before (WroteFront before.outputs after.outputs standard)
CheckSays never files before after = ⊥

-- which files were opened, whatever the host tells: the output only behind an accepted database
abbrev pub CheckOpens : Status → CheckFiles → Outside → Outside → Type 0
CheckOpens Done files before after = Opened (files.db ∷ []) (standard ∷ []) before after
CheckOpens (Open Db) files before after = Opened [] [] before after
CheckOpens (Open Out) files before after = Opened (files.db ∷ []) [] before after
CheckOpens (Read Db) files before after = Opened (files.db ∷ []) [] before after
CheckOpens (Write Out) files before after = Opened (files.db ∷ []) (standard ∷ []) before after
CheckOpens (Database line code) files before after = Opened (files.db ∷ []) [] before after
CheckOpens NoMemory files before after =
    Opened [] [] before after ⊎ Opened (files.db ∷ []) [] before after
    ⊎ Opened (files.db ∷ []) (standard ∷ []) before after
CheckOpens never files before after = ⊥
