-- What a capture is, taken on the whole list of its bytes: its packets in order, and how they end. The layout is that
-- of a pcap file.
use Rattle.std.specs.Prelude.{ℕ, suc, zero, ◌+◌, ◌*◌, ◌%◌, ◌^◌, List, [], ◌∷◌, ◌++◌, length, take, drop, Bool, ◌&&◌, Option, Some, None, Result, Ok, Err, if◌then◌else◌, ◌==◌, nat_lt, nat_le, option_map}
use Rattle.std.specs.Option.{option_or}
use Rattle.byteorder.specs.Endian.{big_number, little_number}
use Rattle.db_model.specs.declared.packet.Packet.{Packet}
use Rattle.pcap_in.specs.declared.form.Endian.{Endian}
use Rattle.pcap_in.specs.declared.form.Endian.TheVariants.{Little, Big}
use Rattle.pcap_in.specs.declared.form.Form.{Form}
use Rattle.pcap_in.specs.declared.form.Resolution.{Resolution}
use Rattle.pcap_in.specs.declared.form.Resolution.TheVariants.{Microseconds, Nanoseconds}

-- how a capture ends: where a record would begin nothing follows; or something broken stands, at an offset and with the
-- code of why; or bytes follow the last packet that may be seen
pub data End : Type 0 where
  Whole : End
  Broken : ℕ → ℕ → End
  Limit : End

-- what is seen of a capture: its packets in order, and the end
pub record Seen : Type 0 where
  pub packets : List Packet
  pub end : End

-- nothing but the end
abbrev pub whole_end : Seen
whole_end = record { packets = []; end = Whole }

-- nothing but a broken end
abbrev pub broken_end : ℕ → ℕ → Seen
broken_end offset code = record { packets = []; end = Broken offset code }

-- the same with these packets in front
abbrev pub with_front : List Packet → Seen → Seen
with_front packets s = record { packets = packets ++ s.packets; end = s.end }

-- what stands where a record begins: nothing; what is no record, with the code of why; or a packet, and the bytes
-- behind its record
pub data Step : Type 0 where
  AtEnd : Step
  NoRecord : ℕ → Step
  One : Packet → List ℕ → Step

-- the number in the first n bytes, in this byte order
abbrev pub number_in : Endian → ℕ → List ℕ → ℕ
number_in Little n bytes = little_number n bytes
number_in Big n bytes = big_number n bytes

-- what the fraction of a second counts, by the magic number
abbrev pub resolution_by : ℕ → Option Resolution
resolution_by magic =
    if magic == 0xA1B2C3D4 then Some Microseconds else (
    if magic == 0xA1B23C4D then Some Nanoseconds else None)

-- a fraction of a second in nanoseconds
abbrev pub nanoseconds_in : Resolution → ℕ → ℕ
nanoseconds_in Microseconds fraction = fraction * 1000
nanoseconds_in Nanoseconds fraction = fraction

-- the form that the first 24 bytes give in this byte order: the magic number stands first, and the link type last
abbrev pub form_by : Endian → List ℕ → Option Form
form_by endian b =
    option_map (λ resolution. record { endian = endian; resolution = resolution; link = number_in endian 4 (drop 20 b) % 2 ^ 16 })
    (resolution_by (number_in endian 4 b))

-- the byte order is the one in which the magic number is one
abbrev pub form_of : List ℕ → Option Form
form_of b = option_or (form_by Little b) (form_by Big b)

-- the major version is 2
abbrev pub checked : List ℕ → Option Form → Result Form End
checked b None = Err (Broken 0 2)
checked b (Some form) = if number_in form.endian 2 (drop 4 b) == 2 then Ok form else Err (Broken 4 3)

-- the file header: 24 bytes of a known form
abbrev pub header : List ℕ → Result Form End
header b = if nat_lt (length b) 24 then Err (Broken 0 1) else checked b (form_of b)

-- the captured length that a record's head gives
abbrev pub captured : Form → List ℕ → ℕ
captured form r = number_in form.endian 4 (drop 8 r)

-- the packet of a record with this head and these captured bytes; its stamp is in nanoseconds
abbrev pub packet_of : Form → ℕ → List ℕ → List ℕ → Packet
packet_of form number head bytes = record {
  number = number;
  link = form.link;
  stamp = number_in form.endian 4 head * 10 ^ 9 + nanoseconds_in form.resolution (number_in form.endian 4 (drop 4 head));
  length = number_in form.endian 4 (drop 12 head);
  bytes = bytes;
}

-- what stands at the front of these bytes: a record is a head of 16 bytes, and then the captured bytes
abbrev pub record_at : Form → ℕ → List ℕ → Step
record_at form number r =
    if length r == 0 then AtEnd else (
    if nat_lt (length r) 16 then NoRecord 4 else (
    if nat_lt 262144 (captured form r) then NoRecord 5 else (
    if nat_lt (length r) (16 + captured form r) then NoRecord 6 else
    One (packet_of form number r (take (captured form r) (drop 16 r))) (drop (16 + captured form r) r))))

-- what a step at an offset and the records behind it come to
abbrev pub step_then : ℕ → Step → (Packet → List ℕ → Seen) → Seen
step_then offset AtEnd more = whole_end
step_then offset (NoRecord code) more = broken_end offset code
step_then offset (One packet rest) more = with_front (packet ∷ []) (more packet rest)

-- the length in bytes of the record of a packet
abbrev pub record_size : Packet → ℕ
record_size packet = 16 + length packet.bytes

-- the records at the front of these bytes, the first so many of them
unfoldable pub first_records : ℕ → Form → ℕ → ℕ → List ℕ → Seen
first_records zero form number offset r = whole_end
first_records (suc n) form number offset r =
    step_then offset (record_at form number r) (λ packet rest. first_records n form (number + 1) (offset + record_size packet) rest)

-- the records that these bytes are, from this number and this offset on: there are no more of them than bytes. The law
-- `RecordsAreSteps` says it without a number of them
unfoldable pub records : Form → ℕ → ℕ → List ℕ → Seen
records form number offset r = first_records (suc (length r)) form number offset r

-- the records behind a header
abbrev pub from_header : Result Form End → List ℕ → Seen
from_header (Err end) b = record { packets = []; end = end }
from_header (Ok form) b = records form 0 24 (drop 24 b)

-- the whole capture
abbrev pub cap : List ℕ → Seen
cap b = from_header (header b) b

-- the length in bytes of the records of these packets
abbrev pub records_size : List Packet → ℕ
records_size [] = 0
records_size (packet ∷ packets) = record_size packet + records_size packets

-- a capture of these packets has so many of them or more, and at least one byte follows the first so many
abbrev pub passes : ℕ → List Packet → List ℕ → Bool
passes most packets b = nat_le most (length packets) && nat_lt (24 + records_size (take most packets)) (length b)

-- what is seen of a capture with a limit of packets: the first so many
unfoldable pub seen : List ℕ → ℕ → Seen
seen b most = record {
  packets = take most (cap b).packets;
  end = if passes most (cap b).packets b then Limit else (cap b).end;
}

-- what ends the last packet that may be seen: the limit, unless nothing follows
abbrev pub end_at_limit : End → End
end_at_limit Whole = Whole
end_at_limit other = Limit

-- the same of what is seen without one: the law `SeenIsLimited` says so
abbrev pub limited : ℕ → Seen → Seen
limited most s = record {
  packets = take most s.packets;
  end = if nat_lt (length s.packets) most then s.end else (if nat_lt most (length s.packets) then Limit else end_at_limit s.end);
}
