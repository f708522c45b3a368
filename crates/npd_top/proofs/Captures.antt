-- What a decode's status says, by what the decoding of its capture came to behind the loading of its database.
use Rattle.std.proofs.Common.{◌≡◌, ⊎_elim, ◌<◌, [], ◌∷◌, ◌++◌, ◌∙◌, ap, subst, IfSome, arith}
use Rattle.db_model.specs.declared.database.Database as model
use Rattle.npd_host.specs.Host.{Outputs, NoneFalls}
use Rattle.pcap_in.specs.Reader.{Reader}
use Rattle.npd_top.specs.declared.job.DecodeFiles.{DecodeFiles}
use Rattle.npd_top.specs.declared.job.Job.{Job}
use Rattle.pipeline.specs.declared.status.Status.{Status}
use Rattle.npd_top.specs.Accepted.{IsAccepted}
use Rattle.npd_top.specs.CaptureRun.{CaptureRuns}
use Rattle.npd_top.specs.DecodeRun.{DecodeSays, DecodeOpens}
use Rattle.npd_top.specs.Outside.{Outside, KeepsIds}
use Rattle.pipeline.specs.Packets.{OpensNames}
use Rattle.npd_top.specs.Doings.{serves}
use Rattle.pipeline.specs.Causes.{HasCause}
use Rattle.npd_top.proofs.Causes.{cause_unopened, cause_decoded, opens_unopened, opens_decoded, two_more}
use Rattle.npd_top.proofs.Runs.{Rests, says_unopened, says_decoded}

-- before the run, behind the loading, and at the end
module _ (status : Status) (files : DecodeFiles) (db : model.Database) (before mid after : Outside) (outputs : mid.outputs ≡ before.outputs) (runs : CaptureRuns status files db mid after) where
  pub cause_captured : NoneFalls before.faults mid.faults → HasCause (serves (Job.Decode files)) before.faults after.faults status
  cause_captured later =
      ⊎_elim
      (λ closed. cause_unopened files status before.faults mid.faults after.faults later closed.cause)
      (λ decoded. cause_decoded files status before.faults decoded.faults after.faults (λ kind name. omega (arith, later kind name, decoded.later kind name)) decoded.cause) runs

  pub opens_captured : mid.inputs.opened ≡ before.inputs.opened ++ files.db ∷ [] → DecodeOpens status files before after
  opens_captured read =
      ⊎_elim
      (λ closed. opens_unopened Reader status files before after mid.inputs.opened mid.faults read closed.opened (ap (λ (o : Outputs). o.opened) (closed.outputs ∙ outputs)) closed.cause)
      (λ decoded. opens_decoded status files before after decoded.faults (two_more _ _ _ files.db files.cap read decoded.opened)
      (subst (λ (o : Outputs). OpensNames status files.outputs o.opened after.outputs.opened) outputs decoded.names) decoded.cause) runs

  pub says_captured : Rests → 0 < files.max → IfSome (before.files files.db) (λ text. IsAccepted text db) → KeepsIds before.inputs mid.inputs → mid.files ≡ before.files → DecodeSays status files before after
  says_captured rests some database keeps same =
      ⊎_elim
      (λ closed. says_unopened rests status files before after mid.inputs mid.faults db some database (rw same at closed.opens) keeps (closed.outputs ∙ outputs) closed.cause)
      (λ decoded. says_decoded rests files before after mid.inputs decoded.inputs db decoded.reader some database (rw same at decoded.opens) keeps status (rw outputs at decoded.named)) runs
