-- What a decode comes to: which status comes where, which files are opened, and what the outputs have taken then.
use Rattle.std.specs.Prelude.{◌≡◌, ◌⊎◌, ℕ, List, [], ◌∷◌, Result, Ok, Err, IfSome, IsSome}
use Rattle.db_model.specs.declared.database.Database as model
use Rattle.pcap_in.specs.declared.form.Form.{Form}
use Rattle.pcap_in.specs.Capture as capture
use Rattle.npd_top.specs.declared.job.DecodeFiles.{DecodeFiles}
use Rattle.pipeline.specs.declared.status.Role.{Role}
use Rattle.pipeline.specs.declared.status.Role.TheVariants.{Db, Cap}
use Rattle.pipeline.specs.declared.status.Status.{Status}
use Rattle.pipeline.specs.declared.status.Status.TheVariants.{Done, Open, Read, Write, Database, Capture, PacketLimit, NoMemory}
use Rattle.npd_top.specs.Accepted.{IsRefused, HasAccepted}
use Rattle.pipeline.specs.Outputs.{open_texts, no_texts}
use Rattle.pipeline.specs.CaptureRead.{GaveOf}
use Rattle.pipeline.specs.Packets.{OutcomeIs}
use Rattle.pipeline.specs.declared.sinks.OutputFiles.{OutputFiles}
use Rattle.npd_top.specs.Outside.{Outside, Opened, WroteNothing}
use Rattle.pipeline.specs.Serial.{serial_lines}
use Rattle.pipeline.specs.Written.{WroteEach, WroteFronts, WrotePart, before_role, names_of, output_of}

-- how what is seen of a capture ends, with at most so many packets
abbrev pub end_of : ℕ → List ℕ → capture.End
end_of most bytes = (capture.seen bytes most).end

-- the file header of a capture is one, or what is missing or broken
abbrev pub IsHeader : Result Form capture.End → Type 0
IsHeader (Ok form) = Unit {0}
IsHeader (Err end) = ⊥

-- where the file header is none, the first, and else the second
abbrev pub ByHeader : Result Form capture.End → Type 0 → Type 0 → Type 0
ByHeader (Ok form) Without With = With
ByHeader (Err end) Without With = Without

-- the database file, where it is told, is accepted, and this holds of it and of the bytes of the capture, where they are
-- told
abbrev pub Finds : DecodeFiles → Outside → (model.Database → List ℕ → Type 0) → Type 0
Finds files before Holds =
    IfSome (before.files files.db) (λ text. (found : HasAccepted text) × IfSome (before.files files.cap) (Holds found.db))

-- for these files, and the host before and after: what the outputs that are named have taken
module _ (files : DecodeFiles) (before after : Outside) where
  -- these outputs are what a status says of the packets of these bytes, as many as are read: whole, a proper front of its
  -- role's and fronts of the others, or fronts; and their end is the status's
  abbrev pub HaveTaken : OutputFiles → Status → model.Database → List ℕ → Type 0
  HaveTaken outputs status db bytes =
      OutcomeIs db serial_lines files.max (WroteEach outputs before.outputs after.outputs)
      (λ role. WrotePart role outputs before.outputs after.outputs)
      (WroteFronts outputs before.outputs after.outputs) status (capture.seen bytes files.max)

  -- the capture is broken: without a file header nothing is written, and else the outputs are whole up to there
  abbrev pub IsBroken : ℕ → ℕ → model.Database → List ℕ → Type 0
  IsBroken offset code db bytes =
      ByHeader (capture.header bytes) ((end_of files.max bytes ≡ capture.Broken offset code) × WroteNothing before after)
      (HaveTaken files.outputs (Capture offset code) db bytes)

  -- the packets that stand wholly in the bytes that the capture gave are written, and the outputs aren't closed; without a
  -- file header in them nothing is written
  abbrev pub IsCut : model.Database → List ℕ → Type 0
  IsCut db bytes =
      (given : List ℕ) × GaveOf files.cap before.inputs after.inputs bytes given
      × ByHeader (capture.header given) (WroteNothing before after)
      (WroteEach files.outputs before.outputs after.outputs (open_texts db serial_lines (capture.cap given).packets))

  -- each output has taken a front of its whole text, and that of this role, which is one of them, a proper one
  abbrev pub HasProperFront : Role → model.Database → List ℕ → Type 0
  HasProperFront role db bytes = IsHeader (capture.header bytes) × HaveTaken files.outputs (Write role) db bytes

  -- the outputs before that of some role are opened, and each has taken a front of its whole text
  abbrev pub HasFront : model.Database → List ℕ → Type 0
  HasFront db bytes = IsHeader (capture.header bytes) × (next : Role) × HaveTaken (before_role next files.outputs) NoMemory db bytes

  -- the outputs before that of this role, which is one of them, are opened, and nothing is written
  abbrev pub IsUnopened : Role → Type 0
  IsUnopened role =
      IsSome (output_of files.outputs role) × WroteEach (before_role role files.outputs) before.outputs after.outputs no_texts
      × Finds files before (λ db bytes. IsHeader (capture.header bytes))

-- what each status says of the files, and of the outputs before and after; all others never come
abbrev pub DecodeSays : Status → DecodeFiles → Outside → Outside → Type 0
DecodeSays Done files before after = Finds files before (HaveTaken files before after files.outputs Done)
DecodeSays (Open Db) files before after = WroteNothing before after
DecodeSays (Open Cap) files before after = WroteNothing before after × Finds files before (λ db bytes. Unit {0})
DecodeSays (Open role) files before after = IsUnopened files before after role
DecodeSays (Read Db) files before after = WroteNothing before after
DecodeSays (Read Cap) files before after = Finds files before (IsCut files before after)
DecodeSays (Write role) files before after = Finds files before (HasProperFront files before after role)
DecodeSays (Database line code) files before after =
    WroteNothing before after × IfSome (before.files files.db) (λ text. IsRefused text line code)
DecodeSays (Capture offset code) files before after = Finds files before (IsBroken files before after offset code)
DecodeSays (PacketLimit max) files before after = Finds files before (HaveTaken files before after files.outputs (PacketLimit max))
DecodeSays NoMemory files before after = WroteNothing before after ⊎ Finds files before (HasFront files before after)
DecodeSays never files before after = ⊥

-- the database and the capture were opened, and these outputs
abbrev pub OpenedWith : DecodeFiles → List (List ℕ) → Outside → Outside → Type 0
OpenedWith files outputs before after = Opened (files.db ∷ files.cap ∷ []) outputs before after

-- which files were opened, whatever the host tells: the database first, the capture only behind an accepted database,
-- the outputs only behind a file header, in their order
abbrev pub DecodeOpens : Status → DecodeFiles → Outside → Outside → Type 0
DecodeOpens Done files before after = OpenedWith files (names_of files.outputs) before after
DecodeOpens (Open Db) files before after = Opened [] [] before after
DecodeOpens (Open Cap) files before after = Opened (files.db ∷ []) [] before after
DecodeOpens (Open role) files before after = OpenedWith files (names_of (before_role role files.outputs)) before after
DecodeOpens (Read Db) files before after = Opened (files.db ∷ []) [] before after
DecodeOpens (Read Cap) files before after = OpenedWith files [] before after ⊎ OpenedWith files (names_of files.outputs) before after
DecodeOpens (Write role) files before after = OpenedWith files (names_of files.outputs) before after
DecodeOpens (Database line code) files before after = Opened (files.db ∷ []) [] before after
DecodeOpens (Capture offset code) files before after = OpenedWith files [] before after ⊎ OpenedWith files (names_of files.outputs) before after
DecodeOpens (PacketLimit max) files before after = OpenedWith files (names_of files.outputs) before after
DecodeOpens NoMemory files before after =
    Opened [] [] before after ⊎ Opened (files.db ∷ []) [] before after
    ⊎ ((next : Role) × OpenedWith files (names_of (before_role next files.outputs)) before after)
DecodeOpens never files before after = ⊥
