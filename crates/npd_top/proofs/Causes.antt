-- Which count rose, and which files were opened, over the steps of a decode.
use Rattle.std.proofs.Common.{◌≡◌, inl, inr, ⊎_elim, ℕ, List, [], ◌∷◌, ◌++◌, Option, Some, None, Err, IfSome, refl, sym, ap, ◌∙◌, append_assoc, append-nil}
use Rattle.npd_host.specs.declared.host.CallKind.{CallKind}
use Rattle.npd_host.specs.Host.{NoneFalls}
use Rattle.npd_top.specs.declared.job.DecodeFiles.{DecodeFiles}
use Rattle.npd_top.specs.declared.job.Job.{Job}
use Rattle.pipeline.specs.declared.status.Role.{Role}
use Rattle.pipeline.specs.declared.status.Role.TheVariants.{Db, Cap, Pdml, Psml, Trace}
use Rattle.pipeline.specs.declared.status.Status.{Status}
use Rattle.pipeline.specs.declared.status.Status.TheVariants.{Done, Open, Read, Write, Database, Capture, PacketLimit, NoMemory}
use Rattle.pipeline.specs.Causes.{HasCause, decodes_capture, one, opens_capture}
use Rattle.pipeline.specs.Opened.{OpensOne}
use Rattle.pipeline.specs.Packets.{OpensNames}
use Rattle.pipeline.specs.Written.{output_of}
use Rattle.npd_top.specs.DecodeRun.{DecodeOpens}
use Rattle.npd_top.specs.Doings.{loads_database, name_of, serves}
use Rattle.npd_top.specs.Outside.{Outside}
use Rattle.pipeline.proofs.Causes.{IsPartOf, cause_later, cause_of_part}

-- ---- the parts of a decode

module _ (files : DecodeFiles) where
  the_database : (role : Role) → IfSome (one Db (Some files.db) role) (λ name. name_of (Job.Decode files) role ≡ Some name)
  the_database Db = refl
  the_database role = tt

  the_capture : (role : Role) → IfSome (one Cap (Some files.cap) role) (λ name. name_of (Job.Decode files) role ≡ Some name)
  the_capture Cap = refl
  the_capture role = tt

  itself : (o : Option (List ℕ)) → IfSome o (λ name. o ≡ Some name)
  itself None = tt
  itself (Some name) = refl

  the_outputs : (role : Role) → IfSome (output_of files.outputs role) (λ name. name_of (Job.Decode files) role ≡ Some name)
  the_outputs Pdml = itself files.outputs.pdml
  the_outputs Psml = itself files.outputs.psml
  the_outputs Trace = itself files.outputs.trace
  the_outputs role = tt

  loading_is_part : IsPartOf (loads_database files.db) (serves (Job.Decode files))
  loading_is_part = record { opens = the_database; reads = the_database; writes = λ role. tt; finds = λ status found. tt }

  opening_is_part : IsPartOf (opens_capture files.cap) (serves (Job.Decode files))
  opening_is_part = record { opens = the_capture; reads = the_capture; writes = λ role. tt; finds = λ status found. tt }

  decoding_is_part : IsPartOf (decodes_capture (Some files.cap) (output_of files.outputs)) (serves (Job.Decode files))
  decoding_is_part = record { opens = the_outputs; reads = the_capture; writes = the_outputs; finds = λ status found. tt }

  module _ (status : Status) (before mid now : CallKind → List ℕ → ℕ) where
    pub cause_unloaded : HasCause (loads_database files.db) before now status → HasCause (serves (Job.Decode files)) before now status
    cause_unloaded cause = cause_of_part (loads_database files.db) (serves (Job.Decode files)) before now status loading_is_part cause

    pub cause_unopened : NoneFalls before mid → HasCause (opens_capture files.cap) mid now status → HasCause (serves (Job.Decode files)) before now status
    cause_unopened later cause =
        cause_later (serves (Job.Decode files)) before mid now status later
        (cause_of_part (opens_capture files.cap) (serves (Job.Decode files)) mid now status opening_is_part cause)

    pub cause_decoded : NoneFalls before mid → HasCause (decodes_capture (Some files.cap) (output_of files.outputs)) mid now status → HasCause (serves (Job.Decode files)) before now status
    cause_decoded later cause =
        cause_later (serves (Job.Decode files)) before mid now status later
        (cause_of_part (decodes_capture (Some files.cap) (output_of files.outputs)) (serves (Job.Decode files)) mid now status decoding_is_part cause)

-- ---- which files were opened

none_more : (now before : List (List ℕ)) → now ≡ before → now ≡ before ++ []
none_more now before e = e ∙ sym (append-nil before)

pub opens_unloaded : (A : Type 0) (status : Status) (files : DecodeFiles) (before after : Outside) → OpensOne {A = A} files.db before.inputs.opened after.inputs.opened (Err status) → after.outputs.opened ≡ before.outputs.opened
    → HasCause (loads_database files.db) before.faults after.faults status → DecodeOpens status files before after
opens_unloaded A (Open Db) files before after opens same cause = record { inputs = none_more _ _ opens; outputs = none_more _ _ same }
opens_unloaded A (Read Db) files before after opens same cause = record { inputs = opens; outputs = none_more _ _ same }
opens_unloaded A (Database line code) files before after opens same cause = record { inputs = opens; outputs = none_more _ _ same }
opens_unloaded A NoMemory files before after opens same cause =
    ⊎_elim (λ none. inl (record { inputs = none_more _ _ none; outputs = none_more _ _ same })) (λ one. inr (inl (record { inputs = one; outputs = none_more _ _ same }))) opens
opens_unloaded A status files before after opens same cause = absurd cause

-- one more behind one
pub two_more : (now mid before : List (List ℕ)) (a b : List ℕ) → mid ≡ before ++ a ∷ [] → now ≡ mid ++ b ∷ [] → now ≡ before ++ a ∷ b ∷ []
two_more now mid before a b first second = second ∙ ap (λ (l : List (List ℕ)). l ++ b ∷ []) first ∙ append_assoc before (a ∷ []) (b ∷ [])

pub opens_unopened : (A : Type 0) (status : Status) (files : DecodeFiles) (before after : Outside) (mid : List (List ℕ)) (faults : CallKind → List ℕ → ℕ) → mid ≡ before.inputs.opened ++ files.db ∷ [] → OpensOne {A = A} files.cap mid after.inputs.opened (Err status)
    → after.outputs.opened ≡ before.outputs.opened → HasCause (opens_capture files.cap) faults after.faults status → DecodeOpens status files before after
opens_unopened A (Open Cap) files before after mid faults db opens same cause = record { inputs = opens ∙ db; outputs = none_more _ _ same }
opens_unopened A (Read Cap) files before after mid faults db opens same cause = inl (record { inputs = two_more _ mid _ files.db files.cap db opens; outputs = none_more _ _ same })
opens_unopened A (Capture offset code) files before after mid faults db opens same cause = inl (record { inputs = two_more _ mid _ files.db files.cap db opens; outputs = none_more _ _ same })
opens_unopened A NoMemory files before after mid faults db opens same cause =
    ⊎_elim (λ none. inr (inl (record { inputs = none ∙ db; outputs = none_more _ _ same })))
    (λ one. inr (inr (Pdml, record { inputs = two_more _ mid _ files.db files.cap db one; outputs = none_more _ _ same }))) opens
opens_unopened A status files before after mid faults db opens same cause = absurd cause

pub opens_decoded : (status : Status) (files : DecodeFiles) (before after : Outside) (faults : CallKind → List ℕ → ℕ) → after.inputs.opened ≡ before.inputs.opened ++ files.db ∷ files.cap ∷ []
    → OpensNames status files.outputs before.outputs.opened after.outputs.opened → HasCause (decodes_capture (Some files.cap) (output_of files.outputs)) faults after.faults status → DecodeOpens status files before after
opens_decoded Done files before after faults read opens cause = record { inputs = read; outputs = opens }
opens_decoded (Open Pdml) files before after faults read opens cause = record { inputs = read; outputs = opens }
opens_decoded (Open Psml) files before after faults read opens cause = record { inputs = read; outputs = opens }
opens_decoded (Open Trace) files before after faults read opens cause = record { inputs = read; outputs = opens }
opens_decoded (Read Cap) files before after faults read opens cause = inr (record { inputs = read; outputs = opens })
opens_decoded (Write role) files before after faults read opens cause = record { inputs = read; outputs = opens }
opens_decoded (Capture offset code) files before after faults read opens cause = inr (record { inputs = read; outputs = opens })
opens_decoded (PacketLimit max) files before after faults read opens cause = record { inputs = read; outputs = opens }
opens_decoded NoMemory files before after faults read opens cause = inr (inr (opens.0, record { inputs = read; outputs = opens.1 }))
opens_decoded status files before after faults read opens cause = absurd cause
