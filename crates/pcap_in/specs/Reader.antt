-- What a reader of a capture is seen as, what is left for it to see, and what its calls come to.
use Rattle.std.specs.Prelude.{◌≡◌, ◌<◌, ◌≤◌, ◌+◌, ◌-◌, ◌^◌, min, ℕ, Bool, true, false, List, [], ◌∷◌, ◌++◌, length, Option, Some, None, Result, Ok, Err, IfSome, option_map}
use Rattle.db_model.specs.declared.packet.Packet.{Packet}
use Rattle.npd_host.specs.Host.{Inputs}
use Rattle.npd_host.specs.declared.host.InId.{InId}
use Rattle.pcap_in.specs.declared.form.Form.{Form}
use Rattle.pcap_in.specs.declared.state.State.{State}
use Rattle.pcap_in.specs.declared.state.State.TheVariants as state
use Rattle.pcap_in.specs.declared.fail.CapFail.{CapFail}
use Rattle.pcap_in.specs.declared.fail.CapFail.TheVariants as fail
use Rattle.pcap_in.specs.declared.next.Next.{Next}
use Rattle.pcap_in.specs.declared.next.Next.TheVariants as next
use Rattle.pcap_in.specs.Capture.{Broken, Seen, whole_end, broken_end, with_front, One, header, record_at, record_size, records, cap}
use Rattle.pcap_in.specs.Reading.{ahead, record_length}

-- a reader: its input, the form of its records, the number of the next packet and the offset of its record, the bytes of
-- that record that it keeps, and how it stands
pub record Reader : Type 0 where
  pub id : InId
  pub form : Form
  pub number : ℕ
  pub offset : ℕ
  pub kept : List ℕ
  pub state : State

-- the reader answered neither a read fault nor want of memory
abbrev pub is_usable : State → Bool
is_usable state.Reading = true
is_usable (state.Broken offset code) = true
is_usable state.Unusable = false

-- nor did it meet what is no record
abbrev pub is_reading : State → Bool
is_reading state.Reading = true
is_reading (state.Broken offset code) = false
is_reading state.Unusable = false

-- how the reader stands after this answer
abbrev pub state_after : {A : Type 0} → Result A CapFail → State
state_after (Ok item) = state.Reading
state_after (Err (fail.Broken offset code)) = state.Broken offset code
state_after (Err fail.ReadFault) = state.Unusable
state_after (Err fail.NoMemory) = state.Unusable

-- what is left to see in this state, where that is told: the records that are ahead
abbrev pub left_of : State → Form → ℕ → ℕ → Option (List ℕ) → Option Seen
left_of state.Reading form number offset bytes = option_map (records form number offset) bytes
left_of (state.Broken at code) form number offset bytes = Some (broken_end at code)
left_of state.Unusable form number offset bytes = None

-- what is left to see for a reader
abbrev pub left : Reader → Inputs → Option Seen
left r inputs = left_of r.state r.form r.number r.offset (ahead r.kept (inputs.held r.id.0))

-- the packets that may still be ahead can be numbered, and their records have offsets
abbrev pub InReach : Reader → Inputs → Type 0
InReach r inputs = IfSome (ahead r.kept (inputs.held r.id.0)) (λ bytes. (r.number ≤ r.offset) × (r.offset + length bytes < 2 ^ 64))

-- `begin` on an input of these bytes gives a reader that sees the whole capture, or says where its header is broken
abbrev pub Begins : Result Reader CapFail → List ℕ → Inputs → Type 0
Begins (Ok r) bytes inputs = (header bytes ≡ Ok r.form) × (left r inputs ≡ Some (cap bytes))
Begins (Err (fail.Broken offset code)) bytes inputs = (header bytes ≡ Err (Broken offset code)) × (cap bytes ≡ broken_end offset code)
Begins (Err fail.ReadFault) bytes inputs = Unit {0}
Begins (Err fail.NoMemory) bytes inputs = Unit {0}

-- what `begin` takes: the whole header, or a broken one, or less than a whole one
abbrev pub TakesHeader : Result Reader CapFail → List ℕ → Type 0
TakesHeader (Ok r) bytes = (length bytes ≡ 24) × (header bytes ≡ Ok r.form)
TakesHeader (Err (fail.Broken offset code)) bytes = header bytes ≡ Err (Broken offset code)
TakesHeader (Err fail.ReadFault) bytes = length bytes < 24
TakesHeader (Err fail.NoMemory) bytes = length bytes < 24

-- `more` says whether bytes are ahead
abbrev pub Follows : Result Bool CapFail → List ℕ → Type 0
Follows (Ok true) bytes = 0 < length bytes
Follows (Ok false) bytes = bytes ≡ []
Follows (Err why) bytes = Unit {0}

-- it leaves what there is to see, which is more than the end exactly where it says so
abbrev pub Tells : Result Bool CapFail → Seen → Option Seen → Type 0
Tells (Ok true) s after = (s ≡ whole_end → ⊥) × (after ≡ Some s)
Tells (Ok false) s after = (s ≡ whole_end) × (after ≡ Some s)
Tells (Err why) s after = Unit {0}

-- what it takes is kept; at the end, and on a read fault, nothing behind the packets given is taken or was kept
abbrev pub Keeps : Result Bool CapFail → List ℕ → List ℕ → List ℕ → Type 0
Keeps (Ok true) before after bytes = (0 < length after) × (after ≡ before ++ bytes)
Keeps (Ok false) before after bytes = (before ≡ []) × (after ≡ []) × (bytes ≡ [])
Keeps (Err why) before after bytes = (before ≡ []) × (after ≡ []) × (bytes ≡ [])

-- `next` gives the first packet that was left to see, and then the others are left; or the end that was left
abbrev pub Comes : Result Next CapFail → Seen → Option Seen → Type 0
Comes (Ok (next.Packet packet)) s after = (rest : Seen) × (after ≡ Some rest) × (s ≡ with_front (packet ∷ []) rest)
Comes (Ok next.End) s after = (s ≡ whole_end) × (after ≡ Some s)
Comes (Err (fail.Broken offset code)) s after = (s ≡ broken_end offset code) × (after ≡ Some s)
Comes (Err fail.ReadFault) s after = Unit {0}
Comes (Err fail.NoMemory) s after = Unit {0}

-- what was kept and is taken, at `next`, and what is kept then: one packet's record, and behind it what is kept; nothing
-- at the end; or on a read fault less than a whole record
abbrev pub Takes : Result Next CapFail → Form → ℕ → List ℕ → List ℕ → Type 0
Takes (Ok (next.Packet packet)) form number bytes kept = record_at form number bytes ≡ One packet kept
Takes (Ok next.End) form number bytes kept = (bytes ≡ []) × (kept ≡ [])
Takes (Err (fail.Broken offset code)) form number bytes kept = Unit {0}
Takes (Err fail.ReadFault) form number bytes kept = length bytes < record_length form bytes
Takes (Err fail.NoMemory) form number bytes kept = Unit {0}

-- the reader behind a packet's record; number and offset stand still at the last value of a u64
abbrev pub moved_by : Packet → Reader → Reader
moved_by packet r = record r { number = min (r.number + 1) (2 ^ 64 - 1); offset = min (r.offset + record_size packet) (2 ^ 64 - 1) }

-- the same where `next` gave that packet, or nothing
abbrev pub moved_after : Result Next CapFail → Reader → Reader
moved_after (Ok (next.Packet packet)) r = moved_by packet r
moved_after (Ok next.End) r = r
moved_after (Err why) r = r

-- the reader after this answer of `next`, with what it keeps then
abbrev pub reader_after : Result Next CapFail → Reader → List ℕ → Reader
reader_after result r kept = record (moved_after result r) { kept = kept; state = state_after result }

-- a packet's stamp is below this
abbrev pub IsStampedBelow : ℕ → Next → Type 0
IsStampedBelow most (next.Packet packet) = packet.stamp < most
IsStampedBelow most next.End = Unit {0}
