-- What the command words ask of the program, as far as it is built.
use Rattle.std.specs.Prelude.{◌≡◌, ◌≤◌, ℕ, List, Option, Some, None, Ok, Err}
use Rattle.npd_words.specs.declared.plan.Plan.{Plan}
use Rattle.npd_words.specs.declared.plan.Plan.TheVariants as plan
use Rattle.npd_words.specs.Asked.{asked, fault}
use Rattle.npd_top.specs.declared.job.Job.{Job}
use Rattle.npd_top.specs.declared.job.Job.TheVariants.{Decode, Check}

-- the job that a plan is; none yet, where it names a report or asks for a capture to be made. The serial run has no
-- workers
abbrev pub job_of : Plan → Option Job
job_of (plan.Decode db cap pdml psml trace None workers window max) =
    Some (Decode (record { db = db; cap = cap; outputs = record { pdml = pdml; psml = psml; trace = trace }; window = window; max = max }))
job_of (plan.Decode db cap pdml psml trace (Some report) workers window max) = None
job_of (plan.Check db) = Some (Check (record { db = db }))
job_of (plan.Gen seed packets workers window) = None

-- at least one packet may be read, and at least one in a window
abbrev pub ReadsSome : Job → Type 0
ReadsSome (Decode files) = (1 ≤ files.max) × (1 ≤ files.window)
ReadsSome (Check files) = Unit {0}

-- these words ask for this job
pub record Asks (words : List (List ℕ)) (job : Job) : Type 0 where
  pub plan : Plan
  pub plan_is : asked words ≡ Ok plan
  pub job_is : job_of plan ≡ Some job

-- these words ask for a plan that isn't built yet
pub record AsksUnbuilt (words : List (List ℕ)) : Type 0 where
  pub plan : Plan
  pub plan_is : asked words ≡ Ok plan
  pub no_job : job_of plan ≡ None

-- these words ask for nothing: this is the first fault in them
abbrev pub AreFaulty : List (List ℕ) → ℕ → ℕ → Type 0
AreFaulty words index code = asked words ≡ Err (fault index code)
