-- What the reading, decoding and writing of packets, window by window, comes to.
use Rattle.std.specs.Prelude.{◌≡◌, ◌⊎◌, ◌<◌, ◌≤◌, ◌+◌, ℕ, List, ◌++◌, length, Option, Result, Ok, Err, IfSome, IsSome}
use Rattle.db_model.specs.declared.database.Database as model
use Rattle.db_model.specs.declared.packet.Packet.{Packet}
use Rattle.db_model.specs.Session.{Session}
use Rattle.engine.specs.Ready.{session_after, texts_of}
use Rattle.npd_host.specs.Host.{Inputs, Outputs, Gave}
use Rattle.pcap_in.specs.declared.form.Form.{Form}
use Rattle.pcap_in.specs.Capture.{Seen, Whole, Broken, Limit, whole_end, with_front, limited, records}
use Rattle.pcap_in.specs.Reader.{Reader, left}
use Rattle.pipeline.specs.declared.sinks.OutputFiles.{OutputFiles}
use Rattle.pipeline.specs.declared.reading.Noted.{Noted}
use Rattle.pipeline.specs.declared.reading.Room.{Room}
use Rattle.pipeline.specs.declared.sinks.Sinks.{Sinks}
use Rattle.pipeline.specs.declared.status.Role.{Role}
use Rattle.pipeline.specs.declared.status.Role.TheVariants.{Cap}
use Rattle.pipeline.specs.declared.status.Status.{Status}
use Rattle.pipeline.specs.declared.status.Status.TheVariants.{Done, Open, Read, Write, Capture, PacketLimit, NoMemory}
use Rattle.pipeline.specs.CaptureRead.{ClosesWith, IsClosing}
use Rattle.pipeline.specs.Outputs.{packet_text, open_texts, whole_texts, no_texts}
use Rattle.pipeline.specs.Taken.{TookEach, TookFronts, TookParts, FailsTexts}
use Rattle.pipeline.specs.Window.{Place, ReadsWindow}
use Rattle.pipeline.specs.Written.{WroteEach, WroteFronts, WrotePart, before_role, names_of, output_of}

-- where the work stands: the reader of the capture, the session that the packets so far left, how many packets may still
-- be read, what inputs give and outputs have taken, and how many packets were decoded
pub record Standing : Type 0 where
  pub reader : Reader
  pub session : Session
  pub left : ℕ
  pub inputs : Inputs
  pub outputs : Outputs
  pub decoded : ℕ

abbrev pub place_of : Standing → Place
place_of a = record { reader = a.reader; inputs = a.inputs }

-- over a database and the lines of a trace, to the outputs of these ids
module _ (db : model.Database) (lines : ℕ → List ℕ) (sinks : Sinks) where
  -- the texts of packets that are decoded now, one after another
  abbrev pub texts_now : List Packet → Session → Role → List ℕ
  texts_now packets s role = texts_of (packet_text role db lines) db s packets

  -- the packets of a window were read, each decoded once, and written; and this ended the window
  pub record Passes (room : Room) (noted : Noted) (a b : Standing) : Type 0 where
    pub packets : List Packet
    pub reads : ReadsWindow room (Ok noted) packets (place_of a) (place_of b)
    pub session : b.session ≡ session_after db a.session packets
    pub left : b.left + length packets ≡ a.left
    pub took : TookEach sinks a.outputs b.outputs (texts_now packets a.session)
    pub decoded : b.decoded ≡ a.decoded + length packets

  -- packets of a window were read, each decoded at most once, and then reading, decoding or writing gave up with this status
  pub record GivesUp (room : Room) (why : Status) (a b : Standing) : Type 0 where
    pub packets : List Packet
    pub read : Result Noted Status
    pub reads : ReadsWindow room read packets (place_of a) (place_of b)
    pub took : FailsTexts why sinks a.outputs b.outputs (texts_now packets a.session)
    pub decoded : b.decoded ≤ a.decoded + length packets

  -- a window
  abbrev pub Turns : Room → Result Noted Status → Standing → Standing → Type 0
  Turns room (Ok noted) a b = Passes room noted a b
  Turns room (Err why) a b = GivesUp room why a b

  -- ---- all packets, at most so many

  module _ (most : ℕ) where
    -- what is left behind the packets that were read
    abbrev pub LeftIs : Result Status Status → ℕ → Seen → Type 0
    LeftIs (Ok Done) count rest = rest ≡ whole_end
    LeftIs (Ok (Capture offset code)) count rest = ClosesWith (Capture offset code) rest × (count < most)
    LeftIs (Ok (PacketLimit max)) count rest = (rest ≡ whole_end → ⊥) × (count ≡ most) × (max ≡ most)
    LeftIs other count rest = Unit {0}

    -- what the outputs have taken of the openings and these packets
    abbrev pub TakesOpen : Result Status Status → Outputs → Outputs → (Role → List ℕ) → Type 0
    TakesOpen (Ok status) old new text = IsClosing status × TookEach sinks old new text
    TakesOpen (Err (Read Cap)) old new text = TookEach sinks old new text
    TakesOpen (Err (Write role)) old new text = TookParts role sinks old new text
    TakesOpen (Err NoMemory) old new text = TookFronts sinks old new text
    TakesOpen (Err other) old new text = ⊥

    -- on a read fault these are the packets of the bytes that were taken
    abbrev pub Cut : Result Status Status → Form → List ℕ → List Packet → Type 0
    Cut (Err (Read Cap)) form given packets = (records form 0 24 given).packets ≡ packets
    Cut other form given packets = Unit {0}

    -- packets were read and each decoded at most once; and this is what was taken and what is left
    pub record Ends (result : Result Status Status) (a b : Standing) : Type 0 where
      pub packets : List Packet
      pub given : List ℕ
      pub few : length packets ≤ most
      pub sees : IfSome (left a.reader a.inputs) (λ seen. (rest : Seen) × (seen ≡ with_front packets rest) × LeftIs result (length packets) rest)
      pub gave : Gave a.reader.id.0 a.inputs b.inputs given
      pub cut : Cut result a.reader.form given packets
      pub took : TakesOpen result a.outputs b.outputs (open_texts db lines packets)
      pub decoded : b.decoded ≤ a.decoded + length packets

-- ---- the whole outputs, of whose texts this holds: that they have taken them, fronts of them and a proper one by this
-- role, or fronts of them

module _ (db : model.Database) (lines : ℕ → List ℕ) (most : ℕ) (Text : (Role → List ℕ) → Type 0) (Part : Role → (Role → List ℕ) → Type 0) (Front : (Role → List ℕ) → Type 0) where
  -- of all that is seen of a capture with a limit of packets: how that ends, and what the outputs are
  abbrev pub OutcomeIs : Status → Seen → Type 0
  OutcomeIs Done seen = (seen.end ≡ Whole) × Text (whole_texts db lines seen.packets)
  OutcomeIs (Capture offset code) seen = (seen.end ≡ Broken offset code) × Text (whole_texts db lines seen.packets)
  OutcomeIs (PacketLimit max) seen = (max ≡ most) × (seen.end ≡ Limit) × Text (whole_texts db lines seen.packets)
  OutcomeIs (Write role) seen = Part role (whole_texts db lines seen.packets)
  OutcomeIs NoMemory seen = Front (whole_texts db lines seen.packets)
  OutcomeIs other seen = ⊥

  -- of what is left to see
  abbrev pub EndsWith : Status → Option Seen → Type 0
  EndsWith status left = IfSome left (λ seen. OutcomeIs status (limited most seen))

  -- some of the bytes that are left were taken, and the packets in them are written
  pub record IsCut (reader : Reader) (old new : Inputs) : Type 0 where
    pub given : List ℕ
    pub gave : Gave reader.id.0 old new given
    pub text : Text (open_texts db lines (records reader.form 0 24 given).packets)

  abbrev pub OutputsAre : Status → Reader → Inputs → Inputs → Type 0
  OutputsAre Done reader old new = EndsWith Done (left reader old)
  OutputsAre (Capture offset code) reader old new = EndsWith (Capture offset code) (left reader old)
  OutputsAre (PacketLimit max) reader old new = EndsWith (PacketLimit max) (left reader old)
  OutputsAre (Read Cap) reader old new = IsCut reader old new
  OutputsAre (Write role) reader old new = EndsWith (Write role) (left reader old)
  OutputsAre NoMemory reader old new = EndsWith NoMemory (left reader old)
  OutputsAre other reader old new = ⊥

-- the outputs of these names are opened first, unless the opening of one gave up
abbrev pub NamedAre : model.Database → (ℕ → List ℕ) → ℕ → OutputFiles → Status → Reader → Inputs → Inputs → Outputs → Outputs → Type 0
NamedAre db lines most files (Open role) reader old new before after =
    IsSome (output_of files role) × WroteEach (before_role role files) before after no_texts
NamedAre db lines most files NoMemory reader old new before after =
    ((next : Role) × WroteEach (before_role next files) before after no_texts)
    ⊎ OutputsAre db lines most (WroteEach files before after) (λ role. WrotePart role files before after) (WroteFronts files before after) NoMemory reader old new
NamedAre db lines most files status reader old new before after =
    OutputsAre db lines most (WroteEach files before after) (λ role. WrotePart role files before after) (WroteFronts files before after) status reader old new

-- which outputs were opened, in order
abbrev pub OpensNames : Status → OutputFiles → List (List ℕ) → List (List ℕ) → Type 0
OpensNames (Open role) files before now = now ≡ before ++ names_of (before_role role files)
OpensNames NoMemory files before now = (next : Role) × (now ≡ before ++ names_of (before_role next files))
OpensNames status files before now = now ≡ before ++ names_of files
