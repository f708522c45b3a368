-- What the opening of a capture and the reading of what follows in it come to.
use Rattle.std.specs.Prelude.{◌≡◌, ◌<◌, ℕ, List, [], ◌∷◌, ◌++◌, length, Option, Some, None, Result, Ok, Err, IsTrue, IfSome}
use Rattle.npd_host.specs.Host.{Inputs}
use Rattle.pcap_in.specs.declared.form.Form.{Form}
use Rattle.pcap_in.specs.declared.state.State.TheVariants as state
use Rattle.pcap_in.specs.Capture.{Seen, Broken, whole_end, broken_end, with_front, One, header, record_at, cap}
use Rattle.pcap_in.specs.Reader.{Reader, is_usable, is_reading, left, InReach, moved_by}
use Rattle.pcap_in.specs.Reading.{record_length}
use Rattle.pipeline.specs.declared.capture.Following.{Following}
use Rattle.pipeline.specs.declared.capture.Following.TheVariants.{Packet, End}
use Rattle.pipeline.specs.declared.status.Role.TheVariants.{Cap}
use Rattle.pipeline.specs.declared.status.Status.{Status}
use Rattle.pipeline.specs.declared.status.Status.TheVariants.{Done, Read, Capture, PacketLimit, NoMemory}

-- ---- the opening

-- a reader of a capture of these bytes, of which its header was taken
pub record IsBehindHeader (reader : Reader) (inputs : Inputs) (bytes : List ℕ) : Type 0 where
  pub head : List ℕ
  pub rest : List ℕ
  pub header_is : header bytes ≡ Ok reader.form
  pub sees : left reader inputs ≡ Some (cap bytes)
  pub form : header head ≡ Ok reader.form
  pub long : length head ≡ 24
  pub holds : inputs.held reader.id.0 ≡ Some rest
  pub parts : bytes ≡ head ++ rest

-- a reader of an input that was opened under this name, before its first packet
pub record IsOpen (reader : Reader) (name : List ℕ) (file : Option (List ℕ)) (old new : Inputs) : Type 0 where
  pub fresh : old.name reader.id.0 ≡ None
  pub named : new.name reader.id.0 ≡ Some name
  pub number : reader.number ≡ 0
  pub kept : reader.kept ≡ []
  pub reading : IsTrue (is_reading reader.state)
  pub usable : IsTrue (is_usable reader.state)
  pub reach : InReach reader new
  pub behind : IfSome file (IsBehindHeader reader new)

-- the bytes that an input opened under this name gave: all but those that it still holds
pub record GaveOf (name : List ℕ) (old new : Inputs) (bytes given : List ℕ) : Type 0 where
  pub id : ℕ
  pub rest : List ℕ
  pub fresh : old.name id ≡ None
  pub named : new.name id ≡ Some name
  pub holds : new.held id ≡ Some rest
  pub parts : bytes ≡ given ++ rest

-- how the opening ended
abbrev pub CaptureOpens : Result Reader Status → List ℕ → Option (List ℕ) → Inputs → Inputs → Type 0
CaptureOpens (Ok reader) name file old new = IsOpen reader name file old new
CaptureOpens (Err (Capture offset code)) name file old new = IfSome file (λ bytes. header bytes ≡ Err (Broken offset code))
CaptureOpens (Err (Read Cap)) name file old new = IfSome file (λ bytes. (given : List ℕ) × GaveOf name old new bytes given × (length given < 24))
CaptureOpens (Err other) name file old new = Unit {0}

-- ---- what follows

-- what is left to see ends so
abbrev pub ClosesWith : Status → Seen → Type 0
ClosesWith Done seen = seen ≡ whole_end
ClosesWith (Capture offset code) seen = seen ≡ broken_end offset code
ClosesWith other seen = ⊥

-- a capture may end with this status
abbrev pub IsCaptureEnd : Status → Type 0
IsCaptureEnd Done = Unit {0}
IsCaptureEnd (Capture offset code) = Unit {0}
IsCaptureEnd other = ⊥

-- and a run may close its outputs with it, or with that of the limit
abbrev pub IsClosing : Status → Type 0
IsClosing (PacketLimit max) = Unit {0}
IsClosing status = IsCaptureEnd status

-- a packet and then what is left after it, or the end
abbrev pub FollowingIs : Result Following Status → Option Seen → Seen → Type 0
FollowingIs (Ok (Packet packet)) left seen = (rest : Seen) × (left ≡ Some rest) × (seen ≡ with_front (packet ∷ []) rest)
FollowingIs (Ok (End status)) left seen = ClosesWith status seen
FollowingIs (Err why) left seen = Unit {0}

-- what was kept and is taken: the bytes of the packet's record, and behind it what is kept now; on a read fault fewer
-- than a record has
abbrev pub FollowingTakes : Result Following Status → Form → ℕ → List ℕ → List ℕ → Type 0
FollowingTakes (Ok (Packet packet)) form number bytes kept = record_at form number bytes ≡ One packet kept
FollowingTakes (Ok (End status)) form number bytes kept = IsCaptureEnd status
FollowingTakes (Err (Read Cap)) form number bytes kept = length bytes < record_length form bytes
FollowingTakes (Err other) form number bytes kept = Unit {0}

abbrev pub IsStamped : ℕ → Following → Type 0
IsStamped most (Packet packet) = packet.stamp < most
IsStamped most (End status) = Unit {0}

-- the reader stands behind the packet
abbrev pub BehindPacket : Result Following Status → Reader → Reader → Type 0
BehindPacket (Ok (Packet packet)) old new = new ≡ record (moved_by packet old) { kept = new.kept; state = state.Reading }
BehindPacket (Ok (End status)) old new = Unit {0}
BehindPacket (Err why) old new = Unit {0}

-- ---- the limit

-- nothing is left to see, or something is
abbrev pub LimitIs : ℕ → Result Status Status → Seen → Type 0
LimitIs most (Ok Done) seen = seen ≡ whole_end
LimitIs most (Ok (PacketLimit max)) seen = (seen ≡ whole_end → ⊥) × (max ≡ most)
LimitIs most other seen = Unit {0}

-- on a read fault nothing was kept and nothing taken
abbrev pub LimitTakes : ℕ → Result Status Status → List ℕ → Type 0
LimitTakes most (Ok Done) bytes = Unit {0}
LimitTakes most (Ok (PacketLimit max)) bytes = max ≡ most
LimitTakes most (Ok other) bytes = ⊥
LimitTakes most (Err (Read Cap)) bytes = bytes ≡ []
LimitTakes most (Err NoMemory) bytes = Unit {0}
LimitTakes most (Err other) bytes = ⊥
