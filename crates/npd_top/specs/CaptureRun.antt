-- What the decoding of a capture comes to.
use Rattle.std.specs.Prelude.{◌≡◌, ◌⊎◌, ℕ, List, [], ◌∷◌, ◌++◌, Some, Err}
use Rattle.db_model.specs.declared.database.Database as model
use Rattle.npd_host.specs.declared.host.CallKind.{CallKind}
use Rattle.npd_host.specs.Host.{Inputs, NoneFalls}
use Rattle.pcap_in.specs.Reader.{Reader}
use Rattle.npd_top.specs.declared.job.DecodeFiles.{DecodeFiles}
use Rattle.pipeline.specs.declared.status.Status.{Status}
use Rattle.pipeline.specs.CaptureRead.{IsOpen, CaptureOpens}
use Rattle.pipeline.specs.Causes.{HasCause, decodes_capture, opens_capture}
use Rattle.npd_top.specs.Outside.{Outside}
use Rattle.pipeline.specs.Packets.{NamedAre, OpensNames}
use Rattle.pipeline.specs.Serial.{serial_lines}
use Rattle.pipeline.specs.Opened.{OpensOne}
use Rattle.pipeline.specs.Written.{output_of}

-- the capture was not opened, or it has no header
pub record StaysClosed (status : Status) (files : DecodeFiles) (before after : Outside) : Type 0 where
  pub opens : CaptureOpens (Err status) files.cap (before.files files.cap) before.inputs after.inputs
  pub opened : OpensOne {A = Reader} files.cap before.inputs.opened after.inputs.opened (Err status)
  pub outputs : after.outputs ≡ before.outputs
  pub cause : HasCause (opens_capture files.cap) before.faults after.faults status

-- it was opened, so that inputs and counts of faults were these, and its packets were decoded by a database
pub record IsDecoded (status : Status) (files : DecodeFiles) (db : model.Database) (before after : Outside) : Type 0 where
  pub reader : Reader
  pub inputs : Inputs
  pub faults : CallKind → List ℕ → ℕ
  pub opens : IsOpen reader files.cap (before.files files.cap) before.inputs inputs
  pub opened : after.inputs.opened ≡ before.inputs.opened ++ files.cap ∷ []
  pub later : NoneFalls before.faults faults
  pub named : NamedAre db serial_lines files.max files.outputs status reader inputs after.inputs before.outputs after.outputs
  pub names : OpensNames status files.outputs before.outputs.opened after.outputs.opened
  pub cause : HasCause (decodes_capture (Some files.cap) (output_of files.outputs)) faults after.faults status

abbrev pub CaptureRuns : Status → DecodeFiles → model.Database → Outside → Outside → Type 0
CaptureRuns status files db before after = StaysClosed status files before after ⊎ IsDecoded status files db before after
