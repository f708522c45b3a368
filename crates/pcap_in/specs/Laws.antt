-- What the records of a capture are, with no bound on their number, and what a limit makes of a capture that is read.
use Rattle.std.specs.Prelude.{◌≡◌, ◌<◌, ◌↔◌, ℕ, ◌+◌, List, [], ◌∷◌, ◌++◌, length, Ok}
use Rattle.db_model.specs.declared.packet.Packet.{Packet}
use Rattle.pcap_in.specs.declared.form.Form.{Form}
use Rattle.pcap_in.specs.Capture.{Seen, Whole, Limit, whole_end, with_front, One, header, record_at, step_then, record_size, records, cap, seen, limited}
use Rattle.pcap_in.specs.Reading.{record_length}

-- the records of any bytes are what stands at their front, and then the records of the bytes behind it
abbrev pub RecordsAreSteps : Type 0
RecordsAreSteps = (form : Form) (number offset : ℕ) (r : List ℕ) →
    records form number offset r
    ≡ step_then offset (record_at form number r) (λ packet rest. records form (number + 1) (offset + record_size packet) rest)

-- nothing but a whole end is seen exactly where no byte is left
abbrev pub EndsWithoutBytes : Type 0
EndsWithoutBytes = (form : Form) (number offset : ℕ) (r : List ℕ) → (records form number offset r ≡ whole_end) ↔ (r ≡ [])

-- what is seen with a limit is what is seen without one, limited
abbrev pub SeenIsLimited : Type 0
SeenIsLimited = (b : List ℕ) (most : ℕ) → 0 < most → seen b most ≡ limited most (cap b)

-- what these packets and what is left behind them come to with a limit
pub record IsLimitedSo (packets : List Packet) (rest : Seen) (most : ℕ) : Type 0 where
  pub below : length packets < most → rest.packets ≡ [] → limited most (with_front packets rest) ≡ record { packets = packets; end = rest.end }
  pub at_end : length packets ≡ most → rest ≡ whole_end → limited most (with_front packets rest) ≡ record { packets = packets; end = Whole }
  pub at_limit : length packets ≡ most → (rest ≡ whole_end → ⊥) → limited most (with_front packets rest) ≡ record { packets = packets; end = Limit }

abbrev pub LimitedIsRead : Type 0
LimitedIsRead = (packets : List Packet) (rest : Seen) (most : ℕ) → IsLimitedSo packets rest most

-- a header at the front of some bytes is theirs, and behind it stand the records of the others
abbrev pub HeaderIsFront : Type 0
HeaderIsFront = (form : Form) (head more : List ℕ) → length head ≡ 24 → header head ≡ Ok form → (header (head ++ more) ≡ Ok form) × (cap (head ++ more) ≡ records form 0 24 more)

-- a record at the front of some bytes is that record, whatever follows them, and then come the records of the bytes behind
-- it
abbrev pub RecordIsFront : Type 0
RecordIsFront = (form : Form) (number offset : ℕ) (bytes rest more : List ℕ) (packet : Packet) → record_at form number bytes ≡ One packet rest
    → records form number offset (bytes ++ more) ≡ with_front (packet ∷ []) (records form (number + 1) (offset + record_size packet) (rest ++ more))

-- its packet has the number that it is read with
abbrev pub RecordIsNumbered : Type 0
RecordIsNumbered = (form : Form) (number : ℕ) (bytes rest : List ℕ) (packet : Packet) → record_at form number bytes ≡ One packet rest → packet.number ≡ number

-- fewer bytes than the record that they begin have no packet
abbrev pub PartHasNone : Type 0
PartHasNone = (form : Form) (number offset : ℕ) (bytes : List ℕ) → length bytes < record_length form bytes → (records form number offset bytes).packets ≡ []
