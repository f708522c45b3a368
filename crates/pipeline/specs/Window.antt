-- What the reading of a window of packets comes to.
use Rattle.std.specs.Prelude.{◌≡◌, ◌⊎◌, ◌<◌, ◌≤◌, ◌+◌, ℕ, List, [], ◌∷◌, ◌++◌, length, take, min, Option, Some, None, Result, Ok, Err, IfSome, IsTrue}
use Rattle.std.specs.List.{All, sum_by}
use Rattle.db_model.specs.declared.limits.TheConstants.{STAMP_END}
use Rattle.db_model.specs.declared.packet.Packet.{Packet}
use Rattle.npd_host.specs.Host.{Inputs, Gave}
use Rattle.pcap_in.specs.Capture.{Seen, whole_end, with_front, records, records_size}
use Rattle.pcap_in.specs.Reader.{Reader, is_reading, left}
use Rattle.pcap_in.specs.Reading.{record_length}
use Rattle.pipeline.specs.declared.reading.Noted.{Noted}
use Rattle.pipeline.specs.declared.reading.Noted.TheVariants.{Full, Closes, Fails}
use Rattle.pipeline.specs.declared.reading.Room.{Room}
use Rattle.pipeline.specs.declared.status.Role.TheVariants.{Cap}
use Rattle.pipeline.specs.declared.status.Status.{Status}
use Rattle.pipeline.specs.declared.status.Status.TheVariants.{Done, Read, Capture, PacketLimit, NoMemory}
use Rattle.pipeline.specs.CaptureRead.{ClosesWith, IsCaptureEnd}
use Rattle.pipeline.specs.Taken.{GaveSome}

-- where the reading of a capture stands: its reader, and what inputs give
pub record Place : Type 0 where
  pub reader : Reader
  pub inputs : Inputs

abbrev pub place : Reader → Inputs → Place
place reader inputs = record { reader = reader; inputs = inputs }

-- ---- the packets of a window

-- the captured bytes of packets
abbrev pub captured_bytes : List Packet → ℕ
captured_bytes packets = sum_by (λ packet. length packet.bytes) packets

-- a window that has so many of them, 16 MiB, takes no packet more
abbrev pub window_bytes : ℕ
window_bytes = 16777216

-- before its last packet it had fewer
abbrev pub IsLight : List Packet → Type 0
IsLight packets = (k : ℕ) → k < length packets → captured_bytes (take k packets) < window_bytes

-- packets are numbered one after another, from this number on
abbrev pub AreNumbered : ℕ → List Packet → Type 0
AreNumbered number [] = Unit {0}
AreNumbered number (packet ∷ packets) = (packet.number ≡ number) × AreNumbered (number + 1) packets

-- these packets were read to here
pub record IsReadTo (packets : List Packet) (now : Option Seen) (seen : Seen) : Type 0 where
  pub rest : Seen
  pub left_is : now ≡ Some rest
  pub all : seen ≡ with_front packets rest

-- these packets were read, one after another: the bytes that were given for it have their records at the front, whatever
-- follows
pub record Reads (packets : List Packet) (a b : Place) : Type 0 where
  pub bytes : List ℕ
  pub gave : Gave a.reader.id.0 a.inputs b.inputs bytes
  pub front : (offset : ℕ) (more : List ℕ) → records a.reader.form a.reader.number offset ((a.reader.kept ++ bytes) ++ more)
      ≡ with_front packets (records a.reader.form b.reader.number (offset + records_size packets) (b.reader.kept ++ more))
  pub id : b.reader.id ≡ a.reader.id
  pub form : b.reader.form ≡ a.reader.form
  pub number : b.reader.number ≡ a.reader.number + length packets
  pub reading : IsTrue (is_reading a.reader.state) → IsTrue (is_reading b.reader.state)
  pub sees : IfSome (left a.reader a.inputs) (IsReadTo packets (left b.reader b.inputs))
  pub numbered : AreNumbered a.reader.number packets
  pub stamped : All (λ packet. packet.stamp < STAMP_END) packets

-- ---- what ends it

-- what is left is that, where the outputs are closed with this status
abbrev pub EndsSo : Status → Seen → Type 0
EndsSo (PacketLimit max) rest = rest ≡ whole_end → ⊥
EndsSo status rest = ClosesWith status rest

-- fewer bytes than a record were taken
pub record IsCutShort (a b : Place) : Type 0 where
  pub bytes : List ℕ
  pub gave : Gave a.reader.id.0 a.inputs b.inputs bytes
  pub short : length (a.reader.kept ++ bytes) < record_length a.reader.form (a.reader.kept ++ bytes)

-- the outputs are closed with this status: nothing but the end was read, and so it is
pub record IsClosed (status : Status) (a b : Place) : Type 0 where
  pub gave : GaveSome a.reader.id.0 a.inputs b.inputs
  pub ends : IfSome (left a.reader a.inputs) (EndsSo status)

-- where that many packets of a window were read, its outputs are closed with these
abbrev pub CanClose : Room → ℕ → Status → Type 0
CanClose room count Done = Unit {0}
CanClose room count (Capture offset code) = count < room.left
CanClose room count (PacketLimit max) = (count ≡ room.left) × (max ≡ room.most)
CanClose room count other = ⊥

-- a window has as many packets as it may, or as many bytes; and more packets may be read
pub record IsFull (room : Room) (packets : List Packet) : Type 0 where
  pub some : 0 < length packets
  pub more : length packets < room.left
  pub full : (length packets ≡ room.window) ⊎ (window_bytes ≤ captured_bytes packets)

-- what ended a window of these packets, and where reading stands then
abbrev pub NotedIs : Room → Result Noted Status → List Packet → Place → Place → Type 0
NotedIs room (Ok Full) packets a b = (b ≡ a) × IsFull room packets
NotedIs room (Ok (Closes status)) packets a b = CanClose room (length packets) status × IsClosed status a b
NotedIs room (Ok (Fails (Read Cap))) packets a b = IsCutShort a b
NotedIs room (Ok (Fails other)) packets a b = ⊥
NotedIs room (Err NoMemory) packets a b = GaveSome a.reader.id.0 a.inputs b.inputs
NotedIs room (Err other) packets a b = ⊥

-- the packets of a window were read, and then this ended it
pub record ReadsWindow (room : Room) (result : Result Noted Status) (packets : List Packet) (a b : Place) : Type 0 where
  pub between : Place
  pub reads : Reads packets a between
  pub noted : NotedIs room result packets between b
  pub few : length packets ≤ min room.window room.left
  pub light : IsLight packets

-- where a window is full, this holds
abbrev pub WhereFull : Result Noted Status → Type 0 → Type 0
WhereFull (Ok Full) P = P
WhereFull other P = Unit {0}

-- ---- its steps

-- what is noted where reading gave up with this status: want of memory is answered at once
abbrev pub given_up : Status → Result Noted Status
given_up NoMemory = Err NoMemory
given_up status = Ok (Fails status)

-- one packet was read behind the others; or none, and this ended the window
abbrev pub ReadsOne : Result (Option Noted) Status → List Packet → List Packet → Place → Place → Type 0
ReadsOne (Ok None) old new a b = (packet : Packet) × (new ≡ old ++ packet ∷ []) × Reads (packet ∷ []) a b
ReadsOne (Ok (Some (Closes status))) old new a b = (new ≡ old) × IsCaptureEnd status × IsClosed status a b
ReadsOne (Ok (Some (Fails (Read Cap)))) old new a b = (new ≡ old) × IsCutShort a b
ReadsOne (Ok (Some other)) old new a b = ⊥
ReadsOne (Err NoMemory) old new a b = (new ≡ old) × GaveSome a.reader.id.0 a.inputs b.inputs
ReadsOne (Err other) old new a b = ⊥

-- the limit was reached: it is told whether something follows
abbrev pub NotesLimit : ℕ → Result Noted Status → Place → Place → Type 0
NotesLimit most (Ok (Closes Done)) a b = IsClosed Done a b
NotesLimit most (Ok (Closes (PacketLimit max))) a b = (max ≡ most) × IsClosed (PacketLimit max) a b
NotesLimit most (Ok (Fails (Read Cap))) a b = IsCutShort a b
NotesLimit most (Ok other) a b = ⊥
NotesLimit most (Err NoMemory) a b = GaveSome a.reader.id.0 a.inputs b.inputs
NotesLimit most (Err other) a b = ⊥
