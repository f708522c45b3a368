-- Where nothing stands in the way, a run ends well.
use Rattle.std.proofs.Common.{◌≡◌, ℕ, List, Option, Some, None, Result, Ok, Err, refl, sym, ap, ◌∙◌, inl, inr, ◌⊎◌, ⊎_elim, IfSome, subst}
use Rattle.std.specs.Prelude.{IsSomeAnd}
use Rattle.db_model.specs.declared.database.Database as model
use Rattle.db_model.specs.Objection.{objection}
use Rattle.npd_host.specs.declared.host.CallKind.{CallKind}
use Rattle.npd_host.specs.declared.host.CallKind.TheVariants as call
use Rattle.npd_host.specs.Host.{Rose}
use Rattle.npd_words.specs.declared.plan.Plan.{Plan}
use Rattle.npd_words.specs.Asked.{asked, fault}
use Rattle.pcap_in.specs.Capture as capture
use Rattle.npd_top.specs.declared.job.CheckFiles.{CheckFiles}
use Rattle.npd_top.specs.declared.job.DecodeFiles.{DecodeFiles}
use Rattle.npd_top.specs.declared.job.Job.{Job}
use Rattle.npd_top.specs.declared.job.Job.TheVariants.{Decode, Check}
use Rattle.pipeline.specs.declared.status.Part.TheVariants as part
use Rattle.pipeline.specs.declared.status.Status.{Status}
use Rattle.pipeline.specs.declared.status.Status.TheVariants.{Done, Words, Open, Read, Write, Database, Capture, PacketLimit, NoMemory, Unbuilt}
use Rattle.npd_top.specs.Accepted.{IsAccepted, HasAccepted, IsRefused}
use Rattle.npd_top.specs.CheckRun.{CheckSays}
use Rattle.npd_top.specs.DecodeRun.{ByHeader, IsBroken, HaveTaken, DecodeSays}
use Rattle.pcap_in.specs.declared.form.Form.{Form}
use Rattle.npd_top.specs.Jobs.{job_of, Asks, AsksUnbuilt, AreFaulty}
use Rattle.npd_top.specs.Laws.{NoneRose, CanDecode, CanCheck, CanServe, EndsWell}
use Rattle.npd_top.specs.Outside.{Outside}
use Rattle.npd_top.specs.Run.{Says, RunsJob}
use Rattle.pipeline.proofs.Told.{none_is_some}
use Rattle.db_load.specs.Laws.{OneDatabase, ExcludesFault}
use Rattle.pipeline.specs.Causes.{opening_call, HasCause}
use Rattle.npd_top.specs.Doings.{name_of, serves}

-- what a file isn't, where it is told
not_so : (file : Option (List ℕ)) (text : List ℕ) (P : List ℕ → Type 0) → file ≡ Some text → (P text → ⊥) → IfSome file P → ⊥
not_so None text P e none is = absurd (none_is_some e)
not_so (Some t) text P e none is = let same : t ≡ text = cc in none (rw (← same) is)

-- a text has one answer
record OneAnswer : Type 0 where
  databases : OneDatabase
  faults : ExcludesFault

not_refused : OneAnswer → (text : List ℕ) (db : model.Database) (line code : ℕ) → IsAccepted text db → IsRefused text line code → ⊥
not_refused one text db line code is refused =
    ⊎_elim (λ fault. one.faults text db line code is.loaded fault)
    (λ objected.
    let same = one.databases text objected.db db objected.loaded is.loaded in
    let objected_is = objected.objected in
    let accepted_is = is.accepted in
    none_is_some (sym accepted_is ∙ ap objection (sym same) ∙ objected_is)) refused

-- what isn't so of a told capture isn't found
not_found : (db : Option (List ℕ)) (cap : Option (List ℕ)) (text bytes : List ℕ) (P : model.Database → List ℕ → Type 0) → db ≡ Some text → cap ≡ Some bytes → ((d : model.Database) → P d bytes → ⊥)
    → IfSome db (λ t. (found : HasAccepted t) × IfSome cap (P found.db)) → ⊥
not_found None cap text bytes P db_is cap_is never found = absurd (none_is_some db_is)
not_found (Some t) cap text bytes P db_is cap_is never found = not_so cap bytes (P found.0.db) cap_is (never found.0.db) found.1

whole_is_broken : (offset code : ℕ) → ◌≡◌ {A = capture.End} capture.Whole (capture.Broken offset code) → ⊥
whole_is_broken offset code e = cc

whole_is_limit : ◌≡◌ {A = capture.End} capture.Whole capture.Limit → ⊥
whole_is_limit e = cc

-- it ends so with a file header or without one
broken_end : (header : Result Form capture.End) (Same Without With : Type 0) → ByHeader header (Same × Without) (Same × With) → Same
broken_end (Ok form) Same Without With is = is.0
broken_end (Err end) Same Without With is = is.0

-- no count rose, of whatever file
none_rose : (kind : CallKind) (name : Option (List ℕ)) (before after : Outside) → NoneRose before after → IsSomeAnd name (λ n. Rose (before.faults kind n) (after.faults kind n)) → ⊥
none_rose kind None before after none rose = rose
none_rose kind (Some n) before after none rose = none kind n rose

-- a decode that can be served, and no count rose
decode_ends : OneAnswer → (status : Status) (files : DecodeFiles) (before after : Outside) → CanDecode files before → NoneRose before after → DecodeSays status files before after → HasCause (serves (Decode files)) before.faults after.faults status → (status ≡ Done) ⊎ (status ≡ NoMemory)
decode_ends one Done files before after can none says cause = inl refl
decode_ends one (Words index code) files before after can none says cause = absurd says
decode_ends one (Open role) files before after can none says cause = absurd (none_rose (opening_call role) (name_of (Decode files) role) before after none cause)
decode_ends one (Read role) files before after can none says cause = absurd (none_rose call.Read (name_of (Decode files) role) before after none cause)
decode_ends one (Write role) files before after can none says cause = absurd (none_rose call.Write (name_of (Decode files) role) before after none cause)
decode_ends one (Database line code) files before after can none says cause =
    absurd (not_so (before.files files.db) can.text (λ text. IsRefused text line code) can.db_is (not_refused one can.text can.accepted.db line code can.accepted.is) says.1)
decode_ends one (Capture offset code) files before after can none says cause =
    absurd (not_found (before.files files.db) (before.files files.cap) can.text can.bytes (IsBroken files before after offset code) can.db_is can.cap_is (λ d is. whole_is_broken offset code (sym can.whole ∙ broken_end (capture.header can.bytes) _ _ _ is)) says)
decode_ends one (PacketLimit max) files before after can none says cause =
    absurd (not_found (before.files files.db) (before.files files.cap) can.text can.bytes (HaveTaken files before after files.outputs (PacketLimit max)) can.db_is can.cap_is (λ d is. whole_is_limit (sym can.whole ∙ is.1)) says)
decode_ends one NoMemory files before after can none says cause = inr refl
decode_ends one (Unbuilt which) files before after can none says cause = absurd says

-- a check that can be served, and no count rose
check_ends : OneAnswer → (status : Status) (files : CheckFiles) (before after : Outside) → CanCheck files before → NoneRose before after → CheckSays status files before after → HasCause (serves (Check files)) before.faults after.faults status → (status ≡ Done) ⊎ (status ≡ NoMemory)
check_ends one Done files before after can none says cause = inl refl
check_ends one (Words index code) files before after can none says cause = absurd says
check_ends one (Open role) files before after can none says cause = absurd (none_rose (opening_call role) (name_of (Check files) role) before after none cause)
check_ends one (Read role) files before after can none says cause = absurd (none_rose call.Read (name_of (Check files) role) before after none cause)
check_ends one (Write role) files before after can none says cause = absurd (none_rose call.Write (name_of (Check files) role) before after none cause)
check_ends one (Database line code) files before after can none says cause =
    absurd (not_so (before.files files.db) can.text (λ text. IsRefused text line code) can.db_is (not_refused one can.text can.accepted.db line code can.accepted.is) says.1)
check_ends one (Capture offset code) files before after can none says cause = absurd says
check_ends one (PacketLimit max) files before after can none says cause = absurd says
check_ends one NoMemory files before after can none says cause = inr refl
check_ends one (Unbuilt which) files before after can none says cause = absurd says

-- words ask for one job only
same_plan : (words : List (List ℕ)) (p q : Plan) → asked words ≡ Ok p → asked words ≡ Ok q → p ≡ q
same_plan words p q a b = cc

same_job : (words : List (List ℕ)) (job other : Job) → Asks words job → Asks words other → other ≡ job
same_job words job other a b = some_same (sym b.job_is ∙ ap job_of (same_plan words b.plan a.plan b.plan_is a.plan_is) ∙ a.job_is)
  where
    some_same : ◌≡◌ {A = Option Job} (Some other) (Some job) → other ≡ job
    some_same e = cc

job_ends : OneAnswer → (status : Status) (job : Job) (before after : Outside) → CanServe job before → NoneRose before after → Says status job before after → HasCause (serves job) before.faults after.faults status → (status ≡ Done) ⊎ (status ≡ NoMemory)
job_ends one status (Decode files) before after can none says cause = decode_ends one status files before after can none says cause
job_ends one status (Check files) before after can none says cause = check_ends one status files before after can none says cause

runs_well : OneAnswer → (status : Status) (words : List (List ℕ)) (before after : Outside) (job : Job) → RunsJob status words before after → Asks words job → CanServe job before → NoneRose before after → (status ≡ Done) ⊎ (status ≡ NoMemory)
runs_well one status words before after job runs asks can none =
    let P : Job → Type 0 = λ j. CanServe j before in
    job_ends one status runs.job before after (subst P (sym (same_job words job runs.job asks runs.asked)) can) none runs.says runs.cause

not_faulty : (words : List (List ℕ)) (job : Job) (index code : ℕ) → Asks words job → AreFaulty words index code → ⊥
not_faulty words job index code asks faulty = never asks.plan (sym asks.plan_is ∙ faulty)
  where
    never : (p : Plan) → Ok p ≡ Err (fault index code) → ⊥
    never p e = cc

not_unbuilt : (words : List (List ℕ)) (job : Job) → Asks words job → AsksUnbuilt words → ⊥
not_unbuilt words job asks unbuilt = none_is_some (sym unbuilt.no_job ∙ ap job_of (same_plan words unbuilt.plan asks.plan unbuilt.plan_is asks.plan_is) ∙ asks.job_is)

-- what a status means keeps this promise
pub means_well : OneDatabase → ExcludesFault → EndsWell
means_well databases faults Done words before after job means asks can none = inl refl
means_well databases faults (Words index code) words before after job means asks can none = absurd (not_faulty words job index code asks means.1)
means_well databases faults (Open role) words before after job means asks can none = runs_well (record { databases = databases; faults = faults }) (Open role) words before after job means asks can none
means_well databases faults (Read role) words before after job means asks can none = runs_well (record { databases = databases; faults = faults }) (Read role) words before after job means asks can none
means_well databases faults (Write role) words before after job means asks can none = runs_well (record { databases = databases; faults = faults }) (Write role) words before after job means asks can none
means_well databases faults (Database line code) words before after job means asks can none = runs_well (record { databases = databases; faults = faults }) (Database line code) words before after job means asks can none
means_well databases faults (Capture offset code) words before after job means asks can none = runs_well (record { databases = databases; faults = faults }) (Capture offset code) words before after job means asks can none
means_well databases faults (PacketLimit max) words before after job means asks can none = runs_well (record { databases = databases; faults = faults }) (PacketLimit max) words before after job means asks can none
means_well databases faults NoMemory words before after job means asks can none = inr refl
means_well databases faults (Unbuilt part.Words) words before after job means asks can none = absurd (not_unbuilt words job asks means.1)
