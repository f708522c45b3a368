-- What a decode's status says, made up of the findings of its steps.
use Rattle.std.proofs.Common.{◌≡◌, inl, inr, ⊎_elim, ◌<◌, ℕ, cond, ltb, List, ◌++◌, length, Option, Some, None, Result, Ok, Err, refl, sym, ap, ◌∙◌, subst, IfSome, IsSome, append_assoc, arith}
use Rattle.std.proofs.lemmas.Bool.Decides.{nat_tests}
use Rattle.db_model.specs.declared.database.Database as model
use Rattle.npd_host.specs.declared.host.CallKind.{CallKind}
use Rattle.npd_host.specs.Host.{Inputs}
use Rattle.pcap_in.specs.declared.form.Form.{Form}
use Rattle.pcap_in.specs.Capture as capture
use Rattle.pcap_in.specs.Laws.{SeenIsLimited, HeaderIsFront}
use Rattle.pcap_in.specs.Reader.{Reader, left}
use Rattle.npd_top.specs.declared.job.DecodeFiles.{DecodeFiles}
use Rattle.pipeline.specs.declared.sinks.OutputFiles.{OutputFiles}
use Rattle.pipeline.specs.declared.status.Role.{Role}
use Rattle.pipeline.specs.declared.status.Role.TheVariants.{Db, Cap, Pdml, Psml, Trace, Out}
use Rattle.pipeline.specs.declared.status.Status.{Status}
use Rattle.pipeline.specs.declared.status.Status.TheVariants.{Done, Open, Read, Write, Database, Capture, PacketLimit, NoMemory}
use Rattle.npd_top.specs.Accepted.{IsAccepted, HasAccepted}
use Rattle.pipeline.specs.CaptureRead.{IsBehindHeader, IsOpen, CaptureOpens, GaveOf}
use Rattle.pipeline.specs.Causes.{HasCause, opens_capture}
use Rattle.npd_top.specs.Doings.{loads_database}
use Rattle.npd_top.specs.DecodeRun.{IsHeader, IsUnopened, ByHeader, Finds, HaveTaken, IsBroken, IsCut, HasProperFront, HasFront, DecodeSays}
use Rattle.npd_top.specs.Loaded.{DatabaseIs}
use Rattle.pipeline.specs.Outputs.{open_texts, whole_texts, no_texts}
use Rattle.npd_top.specs.Outside.{Outside, KeepsIds, WroteNothing}
use Rattle.pipeline.specs.Packets as packets
use Rattle.pipeline.specs.Packets.{OutcomeIs, EndsWith, NamedAre}
use Rattle.pipeline.specs.Serial.{serial_lines}
use Rattle.pipeline.specs.Written.{WroteEach, WroteFronts, WrotePart, before_role, output_of}
use Rattle.pipeline.proofs.Opening.{front_of}
use Rattle.pipeline.proofs.Told.{told_all, told_map, told_here}

-- the laws that a run rests on
pub record Rests : Type 0 where
  pub seen : SeenIsLimited
  pub header : HeaderIsFront

-- ---- what is found of the files

finds_of : (file cap : Option (List ℕ)) (db : model.Database) (P : model.Database → List ℕ → Type 0) → IfSome file (λ text. IsAccepted text db) → IfSome cap (P db)
    → IfSome file (λ text. (found : HasAccepted text) × IfSome cap (P found.db))
finds_of None cap db P is p = tt
finds_of (Some text) cap db P is p = (record { db = db; is = is }, p)

any : (file : Option (List ℕ)) → IfSome file (λ bytes. Unit {0})
any None = tt
any (Some bytes) = tt

-- the header of these bytes is one
header_so : (bytes : List ℕ) (form : Form) → capture.header bytes ≡ Ok form → IsHeader (capture.header bytes)
header_so bytes form e = rw e tt

with_header : (bytes : List ℕ) (form : Form) (Without With : Type 0) → capture.header bytes ≡ Ok form → With → ByHeader (capture.header bytes) Without With
with_header bytes form Without With e with = rw e with

without_header : (bytes : List ℕ) (end : capture.End) (Without With : Type 0) → capture.header bytes ≡ Err end → Without → ByHeader (capture.header bytes) Without With
without_header bytes end Without With e without = rw e without

-- ---- behind a header

-- the database, the name of the capture, and the inputs before the run, before the capture was opened, behind its header
-- and at the end
module _ (rests : Rests) (db : model.Database) (name : List ℕ) (file : Option (List ℕ)) (old mid now new : Inputs) (reader : Reader) (opens : IsOpen reader name file mid now) (keeps : KeepsIds old mid) (most : ℕ) (some : 0 < most) where
  module _ (T : (Role → List ℕ) → Type 0) (P : Role → (Role → List ℕ) → Type 0) (F : (Role → List ℕ) → Type 0) where
    -- of the bytes of the capture, as they are seen with the limit
    outcome_of : (status : Status) (bytes : List ℕ) → IsBehindHeader reader now bytes → EndsWith db serial_lines most T P F status (left reader now) → OutcomeIs db serial_lines most T P F status (capture.seen bytes most)
    outcome_of status bytes behind is =
        subst (λ (s : capture.Seen). OutcomeIs db serial_lines most T P F status s) (sym (rests.seen bytes most some))
        (told_here (left reader now) (capture.cap bytes) (λ s. OutcomeIs db serial_lines most T P F status (capture.limited most s)) behind.sees is)

    -- the bytes that were taken are the header and what was given behind it
    cut_of : (Without : Type 0) (bytes : List ℕ) → IsBehindHeader reader now bytes → packets.OutputsAre db serial_lines most T P F (Read Cap) reader now new
        → (given : List ℕ) × GaveOf name old new bytes given × ByHeader (capture.header given) Without (T (open_texts db serial_lines (capture.cap given).packets))
    cut_of Without bytes behind is =
        let all = behind.head ++ is.given in
        let parts = front_of (now.held reader.id.0) behind.rest (new.held reader.id.0) is.given behind.holds is.gave.front in
        let stands = rests.header reader.form behind.head is.given behind.long behind.form in (
          all,
          record {
            id = reader.id.0;
            rest = parts.0;
            fresh = keeps reader.id.0 opens.fresh;
            named = ap (λ (f : ℕ → Option (List ℕ)). f reader.id.0) is.gave.names ∙ opens.named;
            holds = parts.1;
            parts = behind.parts ∙ ap (λ (l : List ℕ). behind.head ++ l) parts.2 ∙ sym (append_assoc behind.head is.given parts.0);
          },
          with_header all reader.form Without (T (open_texts db serial_lines (capture.cap all).packets)) stands.0
              (subst (λ (s : capture.Seen). T (open_texts db serial_lines s.packets)) (sym stands.1) is.text),
        )

no_name : IsSome {T = List ℕ} None → ⊥
no_name h = cc

-- for a run that came behind the header of the capture: the inputs before the capture was opened and behind its header
module _ (rests : Rests) (files : DecodeFiles) (before after : Outside) (mid now : Inputs) (db : model.Database) (reader : Reader) (some : 0 < files.max) (database : IfSome (before.files files.db) (λ text. IsAccepted text db))
    (opens : IsOpen reader files.cap (before.files files.cap) mid now) (keeps : KeepsIds before.inputs mid) where
  abbrev T : (Role → List ℕ) → Type 0
  T = WroteEach files.outputs before.outputs after.outputs

  abbrev P : Role → (Role → List ℕ) → Type 0
  P role = WrotePart role files.outputs before.outputs after.outputs

  abbrev F : (Role → List ℕ) → Type 0
  F = WroteFronts files.outputs before.outputs after.outputs

  -- what holds of the bytes of the capture is found
  found : (Q : model.Database → List ℕ → Type 0) → ((bytes : List ℕ) → IsBehindHeader reader now bytes → Q db bytes) → Finds files before Q
  found Q holds = finds_of (before.files files.db) (before.files files.cap) db Q database (told_map (before.files files.cap) (IsBehindHeader reader now) (Q db) holds opens.behind)

  -- the opening of an output gave up
  unopened : (role : Role) → IsSome (output_of files.outputs role) × WroteEach (before_role role files.outputs) before.outputs after.outputs no_texts → IsUnopened files before after role
  unopened role is = (is.0, is.1, found (λ db bytes. IsHeader (capture.header bytes)) (λ bytes behind. header_so bytes reader.form behind.header_is))

  -- nothing was taken is a front of anything
  fronts_of_none : (part : OutputFiles) (text : Role → List ℕ) → WroteEach part before.outputs after.outputs no_texts → WroteFronts part before.outputs after.outputs text
  fronts_of_none part text wrote = record { front = no_texts; back = text; parts = λ role. told_all (output_of part role) (λ name. text role ≡ text role) (λ name. refl); wrote = wrote }

  -- where memory was refused: while outputs were opened, or when all were
  fronts_of : (bytes : List ℕ) → IsBehindHeader reader now bytes → NamedAre db serial_lines files.max files.outputs NoMemory reader now after.inputs before.outputs after.outputs
      → (next : Role) × WroteFronts (before_role next files.outputs) before.outputs after.outputs (whole_texts db serial_lines (capture.seen bytes files.max).packets)
  fronts_of bytes behind is =
      ⊎_elim (λ part. (part.0, fronts_of_none (before_role part.0 files.outputs) (whole_texts db serial_lines (capture.seen bytes files.max).packets) part.1))
      (λ front. (Out, outcome_of rests db files.cap (before.files files.cap) before.inputs mid now after.inputs reader opens keeps files.max some T P F NoMemory bytes behind front)) is

  -- what a status says whose run came behind the header
  pub says_decoded : (status : Status) → NamedAre db serial_lines files.max files.outputs status reader now after.inputs before.outputs after.outputs → DecodeSays status files before after
  says_decoded Done is = found (HaveTaken files before after files.outputs Done) (λ bytes behind. outcome_of rests db files.cap (before.files files.cap) before.inputs mid now after.inputs reader opens keeps files.max some T P F Done bytes behind is)
  says_decoded (Open Db) is = absurd (no_name is.0)
  says_decoded (Open Cap) is = absurd (no_name is.0)
  says_decoded (Open Pdml) is = unopened Pdml is
  says_decoded (Open Psml) is = unopened Psml is
  says_decoded (Open Trace) is = unopened Trace is
  says_decoded (Open Out) is = unopened Out is
  says_decoded (Read Cap) is =
      found (IsCut files before after) (λ bytes behind. cut_of rests db files.cap (before.files files.cap) before.inputs mid now after.inputs reader opens keeps files.max some T P F (WroteNothing before after) bytes behind is)
  says_decoded (Write role) is =
      found (HasProperFront files before after role) (λ bytes behind. (header_so bytes reader.form behind.header_is, outcome_of rests db files.cap (before.files files.cap) before.inputs mid now after.inputs reader opens keeps files.max some T P F (Write role) bytes behind is))
  says_decoded (Capture offset code) is =
      found (IsBroken files before after offset code) (λ bytes behind.
      with_header bytes reader.form _ (HaveTaken files before after files.outputs (Capture offset code) db bytes) behind.header_is (outcome_of rests db files.cap (before.files files.cap) before.inputs mid now after.inputs reader opens keeps files.max some T P F (Capture offset code) bytes behind is))
  says_decoded (PacketLimit max) is = found (HaveTaken files before after files.outputs (PacketLimit max)) (λ bytes behind. outcome_of rests db files.cap (before.files files.cap) before.inputs mid now after.inputs reader opens keeps files.max some T P F (PacketLimit max) bytes behind is)
  says_decoded NoMemory is =
      inr (found (HasFront files before after) (λ bytes behind.
      let front = fronts_of bytes behind is in
      (header_so bytes reader.form behind.header_is, front.0, front.1)))
  says_decoded status is = absurd is

-- ---- before the output

short_header : (bytes : List ℕ) → length bytes < 24 → capture.header bytes ≡ Err (capture.Broken 0 1)
short_header bytes short = first (length bytes) (Err (capture.Broken 0 1)) _ short
  where
    first : (n : ℕ) (x y : Result Form capture.End) → n < 24 → cond (ltb n 24) x y ≡ x
    first n x y h = grind (arith, nat_tests)

-- a header that is none is all that is seen
no_header : Rests → (bytes : List ℕ) (most offset code : ℕ) → 0 < most → capture.header bytes ≡ Err (capture.Broken offset code) → (capture.seen bytes most).end ≡ capture.Broken offset code
no_header rests bytes most offset code some e =
    ap (λ (s : capture.Seen). s.end) (rests.seen bytes most some)
    ∙ ap (λ (r : Result Form capture.End). (capture.limited most (capture.from_header r bytes)).end) e
    ∙ none_fewer most (capture.Broken offset code) _ some
  where
    none_fewer : (n : ℕ) (x y : capture.End) → 0 < n → cond (ltb 0 n) x y ≡ x
    none_fewer n x y h = grind (arith, nat_tests)

-- what a status says where the capture wasn't opened, or has no header
pub says_unopened : Rests → (status : Status) (files : DecodeFiles) (before after : Outside) (mid : Inputs) (faults : CallKind → List ℕ → ℕ) (db : model.Database) → 0 < files.max → IfSome (before.files files.db) (λ text. IsAccepted text db)
    → CaptureOpens (Err status) files.cap (before.files files.cap) mid after.inputs → KeepsIds before.inputs mid → after.outputs ≡ before.outputs → HasCause (opens_capture files.cap) faults after.faults status → DecodeSays status files before after
says_unopened rests (Open Cap) files before after mid faults db some database opens keeps same cause =
    (same, finds_of (before.files files.db) (before.files files.cap) db (λ db bytes. Unit {0}) database (any (before.files files.cap)))
says_unopened rests (Read Cap) files before after mid faults db some database opens keeps same cause =
    finds_of (before.files files.db) (before.files files.cap) db (IsCut files before after) database
    (told_map (before.files files.cap) (λ bytes. (given : List ℕ) × GaveOf files.cap mid after.inputs bytes given × (length given < 24)) (IsCut files before after db) (λ bytes took.
    let gave = took.1 in (
      took.0,
      record { id = gave.id; rest = gave.rest; fresh = keeps gave.id gave.fresh; named = gave.named; holds = gave.holds; parts = gave.parts },
      without_header took.0 (capture.Broken 0 1) (WroteNothing before after) (WroteEach files.outputs before.outputs after.outputs (open_texts db serial_lines (capture.cap took.0).packets)) (short_header took.0 took.2) same,
    )) opens)
says_unopened rests (Capture offset code) files before after mid faults db some database opens keeps same cause =
    finds_of (before.files files.db) (before.files files.cap) db (IsBroken files before after offset code) database
    (told_map (before.files files.cap) (λ bytes. capture.header bytes ≡ Err (capture.Broken offset code)) (IsBroken files before after offset code db) (λ bytes e.
    without_header bytes (capture.Broken offset code) _ (HaveTaken files before after files.outputs (Capture offset code) db bytes) e (no_header rests bytes files.max offset code some e, same)) opens)
says_unopened rests NoMemory files before after mid faults db some database opens keeps same cause = inl same
says_unopened rests status files before after mid faults db some database opens keeps same cause = absurd cause

-- what it says where there is no database to decode by
pub says_unloaded : (status : Status) (files : DecodeFiles) (before after : Outside) → IfSome (before.files files.db) (DatabaseIs (Err status)) → after.outputs ≡ before.outputs → HasCause (loads_database files.db) before.faults after.faults status
    → DecodeSays status files before after
says_unloaded (Open Db) files before after is same cause = same
says_unloaded (Read Db) files before after is same cause = same
says_unloaded (Database line code) files before after is same cause = (same, is)
says_unloaded NoMemory files before after is same cause = inl same
says_unloaded status files before after is same cause = absurd cause
