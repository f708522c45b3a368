-- How the findings of a check's steps make up what its status says.
use Rattle.std.proofs.Common.{◌≡◌, ◌<◌, ◌≤◌, ℕ, Bool, true, false, ltb, List, [], ◌∷◌, ◌++◌, length, Option, Some, None, Result, Ok, Err, refl, sym, ap, ◌∙◌, inl, inr, ⊎_elim, append-nil, length-append, subst, IfSome, arith}
use Rattle.std.proofs.lemmas.Bool.Decides.{nat_tests}
use Rattle.db_model.specs.declared.database.Database as model
use Rattle.db_text.specs.Refusal as text
use Rattle.db_text.specs.declared.limits.TheConstants.{MOST_TEXT_BYTES}
use Rattle.npd_top.specs.declared.job.CheckFiles.{CheckFiles}
use Rattle.pipeline.specs.declared.status.Role.TheVariants.{Db, Cap, Pdml, Psml, Trace, Out}
use Rattle.pipeline.specs.declared.status.Status.{Status}
use Rattle.pipeline.specs.declared.status.Status.TheVariants.{Done, Words, Open, Read, Write, Database, Capture, PacketLimit, NoMemory, Unbuilt}
use Rattle.npd_top.specs.declared.totals.Totals.{Totals}
use Rattle.npd_top.specs.Accepted.{HasAccepted}
use Rattle.npd_top.specs.CheckRun.{FindsAccepted, CheckSays, CheckOpens, totals_of, totals_line}
use Rattle.npd_top.specs.Loaded.{DatabaseIs, TotalsAre}
use Rattle.npd_top.specs.Outside.{Outside, FrontOf}
use Rattle.pipeline.specs.Opened.{OpensOne}
use Rattle.npd_top.specs.Line.{standard, WroteFront, WroteProper, WritesLine}

-- a front that is longer than any text of a database is refused, and so is the whole
long-refused : (front whole : List ℕ) (line code : ℕ) → MOST_TEXT_BYTES < length front → length front ≤ length whole → text.IsRefused front line code → text.IsRefused whole line code
long-refused front whole line code long more (text.IsRefused.too_long l line_is code_is) = text.IsRefused.too_long (omega arith) line_is code_is
long-refused front whole line code long more (text.IsRefused.faulty within is) = absurd (omega arith)
long-refused front whole line code long more (text.IsRefused.too_deep_within within is code_is) = absurd (omega arith)

long-whole : (result : Result model.Database Status) (front whole : List ℕ) → MOST_TEXT_BYTES < length front → length front ≤ length whole → DatabaseIs result front → DatabaseIs result whole
long-whole (Ok db) front whole long more is = let within = is.loaded.text.within in absurd (omega arith)
long-whole (Err (Database line code)) front whole long more is =
    ⊎_elim
    (λ fault. ⊎_elim (λ refused. inl (inl (long-refused front whole line code long more refused))) (λ judged. let within = judged.text.within in absurd (omega arith)) fault)
    (λ objected. let within = objected.loaded.text.within in absurd (omega arith)) is
long-whole (Err Done) front whole long more is = tt
long-whole (Err (Words index at)) front whole long more is = tt
long-whole (Err (Open role)) front whole long more is = tt
long-whole (Err (Read role)) front whole long more is = tt
long-whole (Err (Write role)) front whole long more is = tt
long-whole (Err (Capture offset code)) front whole long more is = tt
long-whole (Err (PacketLimit max)) front whole long more is = tt
long-whole (Err NoMemory) front whole long more is = tt
long-whole (Err (Unbuilt which)) front whole long more is = tt

-- what is found of the bytes that were read, of which there are enough, is found of the whole text
whole-by : (test : Bool) (result : Result model.Database Status) (most : ℕ) (front whole : List ℕ) → ltb (length front) most ≡ test → MOST_TEXT_BYTES < most → FrontOf most front whole → DatabaseIs result front → DatabaseIs result whole
whole-by true result most front whole short enough parts is =
    let few : length front < most = grind (arith, nat_tests) in
    let none = parts.end few in
    let same : whole ≡ front = parts.parts ∙ ap (λ (l : List ℕ). front ++ l) none ∙ append-nil front in
    let P : List ℕ → Type 0 = λ l. DatabaseIs result l in
    subst P (sym same) is
whole-by false result most front whole long enough parts is =
    let many : most ≤ length front = grind (arith, nat_tests) in
    let both = ap length parts.parts ∙ length-append front parts.rest in
    long-whole result front whole (omega arith) (omega arith) is

pub whole-is : (result : Result model.Database Status) (most : ℕ) (front : List ℕ) (file : Option (List ℕ)) → MOST_TEXT_BYTES < most → IfSome file (FrontOf most front) → DatabaseIs result front → IfSome file (DatabaseIs result)
whole-is result most front None enough parts is = tt
whole-is result most front (Some whole) enough parts is =
    whole-by (ltb (length front) most) result most front whole refl enough parts is

-- the database was counted
pub counted : (file : Option (List ℕ)) (db : model.Database) (totals : Totals) → totals ≡ totals_of db → IfSome file (DatabaseIs (Ok db)) → IfSome file (TotalsAre (Ok totals))
counted None db totals same is = tt
counted (Some text) db totals same is = (record { db = db; is = is }, same)

accepted_of : (file : Option (List ℕ)) (totals : Totals) (P : List ℕ → Type 0) → IfSome file (TotalsAre (Ok totals)) → P (totals_line totals) → IfSome file (λ text. (found : HasAccepted text) × P (totals_line (totals_of found.db)))
accepted_of None totals P is p = tt
accepted_of (Some text) totals P is p = (is.0, rw is.1 at p)

-- an accepted database was found, and this holds of its line
pub finds_accepted : (files : CheckFiles) (before : Outside) (totals : Totals) (P : List ℕ → Type 0) → IfSome (before.files files.db) (TotalsAre (Ok totals)) → P (totals_line totals) → FindsAccepted files before P
finds_accepted files before totals P is p = accepted_of (before.files files.db) totals P is p

-- its line was written, or given up with this status
pub says_line : (status : Status) (files : CheckFiles) (before after : Outside) (totals : Totals) → IfSome (before.files files.db) (TotalsAre (Ok totals)) → WritesLine {A = Unit {0}} (Err status) before.outputs after.outputs standard (totals_line totals) → CheckSays status files before after
says_line Done files before after totals is w = absurd w
says_line (Open Db) files before after totals is w = absurd w
says_line (Open Cap) files before after totals is w = absurd w
says_line (Words index code) files before after totals is w = absurd w
says_line (PacketLimit max) files before after totals is w = absurd w
says_line (Open Pdml) files before after totals is w = absurd w
says_line (Open Psml) files before after totals is w = absurd w
says_line (Open Trace) files before after totals is w = absurd w
says_line (Open Out) files before after totals is w = (w, finds_accepted files before totals (λ line. Unit {0}) is tt)
says_line (Read role) files before after totals is w = absurd w
says_line (Write Db) files before after totals is w = absurd w
says_line (Write Cap) files before after totals is w = absurd w
says_line (Write Pdml) files before after totals is w = absurd w
says_line (Write Psml) files before after totals is w = absurd w
says_line (Write Trace) files before after totals is w = absurd w
says_line (Write Out) files before after totals is w = finds_accepted files before totals (WroteProper before.outputs after.outputs standard) is w
says_line (Database line code) files before after totals is w = absurd w
says_line (Capture offset code) files before after totals is w = absurd w
says_line NoMemory files before after totals is w =
    ⊎_elim (λ same. inl same) (λ front. inr (finds_accepted files before totals (WroteFront before.outputs after.outputs standard) is front)) w
says_line (Unbuilt which) files before after totals is w = absurd w

-- which files were opened where the writing of the line gave up
pub opens_line : (status : Status) (files : CheckFiles) (before after : Outside) (began : List (List ℕ)) (line : List ℕ) → began ≡ before.outputs.opened → WritesLine {A = Unit {0}} (Err status) before.outputs after.outputs standard line
    → after.inputs.opened ≡ before.inputs.opened ++ files.db ∷ [] → OpensOne {A = Unit {0}} standard began after.outputs.opened (Err status) → CheckOpens status files before after
opens_line Done files before after began line here w read opens = absurd w
opens_line (Open Db) files before after began line here w read opens = absurd w
opens_line (Open Cap) files before after began line here w read opens = absurd w
opens_line (Words index code) files before after began line here w read opens = absurd w
opens_line (PacketLimit max) files before after began line here w read opens = absurd w
opens_line (Open Pdml) files before after began line here w read opens = absurd w
opens_line (Open Psml) files before after began line here w read opens = absurd w
opens_line (Open Trace) files before after began line here w read opens = absurd w
opens_line (Open Out) files before after began line here w read opens = record { inputs = read; outputs = opens ∙ here ∙ sym (append-nil before.outputs.opened) }
opens_line (Read role) files before after began line here w read opens = absurd w
opens_line (Write Db) files before after began line here w read opens = absurd w
opens_line (Write Cap) files before after began line here w read opens = absurd w
opens_line (Write Pdml) files before after began line here w read opens = absurd w
opens_line (Write Psml) files before after began line here w read opens = absurd w
opens_line (Write Trace) files before after began line here w read opens = absurd w
opens_line (Write Out) files before after began line here w read opens = record { inputs = read; outputs = opens ∙ ap (λ (l : List (List ℕ)). l ++ standard ∷ []) here }
opens_line (Database at code) files before after began line here w read opens = absurd w
opens_line (Capture offset code) files before after began line here w read opens = absurd w
opens_line NoMemory files before after began line here w read opens =
    ⊎_elim (λ same. inr (inl (record { inputs = read; outputs = same ∙ here ∙ sym (append-nil before.outputs.opened) })))
    (λ wrote. inr (inr (record { inputs = read; outputs = wrote ∙ ap (λ (l : List (List ℕ)). l ++ standard ∷ []) here }))) opens
opens_line (Unbuilt which) files before after began line here w read opens = absurd w
