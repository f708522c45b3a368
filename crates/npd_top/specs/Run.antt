-- What a status means: for each job that words ask for, which files were opened, what their contents are and what was
-- written, and which count of faults rose.
use Rattle.std.specs.Prelude.{◌≡◌, ◌⊎◌, ℕ, List}
use Rattle.npd_top.specs.declared.job.Job.{Job}
use Rattle.npd_top.specs.declared.job.Job.TheVariants.{Decode, Check}
use Rattle.pipeline.specs.declared.status.Part.TheVariants as part
use Rattle.pipeline.specs.declared.status.Status.{Status}
use Rattle.pipeline.specs.declared.status.Status.TheVariants.{Words, NoMemory, Unbuilt}
use Rattle.pipeline.specs.Causes.{HasCause}
use Rattle.npd_top.specs.CheckRun.{CheckSays, CheckOpens}
use Rattle.npd_top.specs.DecodeRun.{DecodeSays, DecodeOpens}
use Rattle.npd_top.specs.Doings.{serves}
use Rattle.npd_top.specs.Jobs.{Asks, AsksUnbuilt, AreFaulty}
use Rattle.npd_top.specs.Outside.{Outside}

-- what a status says of the files of a job, and of the outputs before and after
abbrev pub Says : Status → Job → Outside → Outside → Type 0
Says status (Decode files) before after = DecodeSays status files before after
Says status (Check files) before after = CheckSays status files before after

-- which files of a job were opened, in order, each once
abbrev pub Opens : Status → Job → Outside → Outside → Type 0
Opens status (Decode files) before after = DecodeOpens status files before after
Opens status (Check files) before after = CheckOpens status files before after

-- the words ask for a job, and the status says this of it
pub record RunsJob (status : Status) (words : List (List ℕ)) (before after : Outside) : Type 0 where
  pub job : Job
  pub asked : Asks words job
  pub opens : Opens status job before after
  pub says : Says status job before after
  -- which count rose in this call: that of the kind of call, and of the name of the role's own file
  pub cause : HasCause (serves job) before.faults after.faults status

-- what a status means for the words, and for the host before and after
abbrev pub Means : Status → List (List ℕ) → Outside → Outside → Type 0
Means (Words index code) words before after = (after ≡ before) × AreFaulty words index code
Means (Unbuilt part.Words) words before after = (after ≡ before) × AsksUnbuilt words
Means NoMemory words before after = (after ≡ before) ⊎ RunsJob NoMemory words before after
Means status words before after = RunsJob status words before after

-- where the words ask for nothing, or for what isn't built yet, this holds
abbrev pub WhereUntouched : Status → Type 0 → Type 0
WhereUntouched (Words index code) Same = Same
WhereUntouched (Unbuilt which) Same = Same
WhereUntouched other Same = Unit {0}
