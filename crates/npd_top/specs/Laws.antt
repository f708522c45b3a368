-- What follows from what a status means.
use Rattle.std.specs.Prelude.{◌≡◌, ◌⊎◌, ℕ, List, Some}
use Rattle.npd_host.specs.declared.host.CallKind.{CallKind}
use Rattle.npd_host.specs.Host.{Rose}
use Rattle.pcap_in.specs.Capture.{Whole}
use Rattle.npd_top.specs.declared.job.CheckFiles.{CheckFiles}
use Rattle.npd_top.specs.declared.job.DecodeFiles.{DecodeFiles}
use Rattle.npd_top.specs.declared.job.Job.{Job}
use Rattle.npd_top.specs.declared.job.Job.TheVariants.{Decode, Check}
use Rattle.pipeline.specs.declared.status.Status.{Status}
use Rattle.pipeline.specs.declared.status.Status.TheVariants.{Done, NoMemory}
use Rattle.npd_top.specs.Accepted.{HasAccepted}
use Rattle.npd_top.specs.DecodeRun.{end_of}
use Rattle.npd_top.specs.Jobs.{Asks}
use Rattle.npd_top.specs.Outside.{Outside}
use Rattle.npd_top.specs.Run.{Means}

-- no count of faults rose, and none stands at its last value
abbrev pub NoneRose : Outside → Outside → Type 0
NoneRose before after = (kind : CallKind) (name : List ℕ) → Rose (before.faults kind name) (after.faults kind name) → ⊥

-- the files are told, and are a database that is accepted and a capture that ends whole within the limit of packets
pub record CanDecode (files : DecodeFiles) (before : Outside) : Type 0 where
  pub text : List ℕ
  pub bytes : List ℕ
  pub db_is : before.files files.db ≡ Some text
  pub cap_is : before.files files.cap ≡ Some bytes
  pub accepted : HasAccepted text
  pub whole : end_of files.max bytes ≡ Whole

-- the file is told, and is a database that is accepted
pub record CanCheck (files : CheckFiles) (before : Outside) : Type 0 where
  pub text : List ℕ
  pub db_is : before.files files.db ≡ Some text
  pub accepted : HasAccepted text

-- the files of a job are such that it can be served
abbrev pub CanServe : Job → Outside → Type 0
CanServe (Decode files) before = CanDecode files before
CanServe (Check files) before = CanCheck files before

-- words that ask for a job, files with which it can be served, and no count that rose: all is done, unless memory was
-- refused
abbrev pub EndsWell : Type 0
EndsWell =
    (status : Status) (words : List (List ℕ)) (before after : Outside) (job : Job)
    → Means status words before after
    → Asks words job → CanServe job before
    → NoneRose before after
    → (status ≡ Done) ⊎ (status ≡ NoMemory)
