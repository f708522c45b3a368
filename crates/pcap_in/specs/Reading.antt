-- What the reading of a header and of one record takes from its input, and what it finds there.
use Rattle.std.specs.Prelude.{◌≡◌, ◌<◌, ◌≤◌, ◌+◌, ℕ, List, [], ◌∷◌, ◌++◌, length, take, Option, Some, None, option_map, Result, Ok, Err, if◌then◌else◌, nat_lt}
use Rattle.std.specs.Io.KnownBytes.{IsAtEnd}
use Rattle.npd_host.specs.Host.{Inputs, Gave}
use Rattle.npd_host.specs.declared.host.HostFail.{HostFail}
use Rattle.npd_host.specs.declared.host.HostFail.TheVariants.{Failed, NoMemory}
use Rattle.pcap_in.specs.declared.fail.CapFail.{CapFail}
use Rattle.pcap_in.specs.declared.fail.CapFail.TheVariants as fail
use Rattle.pcap_in.specs.declared.form.Form.{Form}
use Rattle.pcap_in.specs.declared.record.Found.{Found}
use Rattle.pcap_in.specs.declared.record.Found.TheVariants as found
use Rattle.pcap_in.specs.Capture.{End, Broken, Step, AtEnd, NoRecord, One, captured, record_at}

-- the form that a file header gives, or where it is broken
abbrev pub HeaderIs : Result Form CapFail → Result Form End → Type 0
HeaderIs (Ok form) head = head ≡ Ok form
HeaderIs (Err (fail.Broken offset code)) head = head ≡ Err (Broken offset code)
HeaderIs (Err other) head = ⊥

-- the bytes ahead of a reader: those that it keeps, and then those that its input still holds, where these are told
abbrev pub ahead : List ℕ → Option (List ℕ) → Option (List ℕ)
ahead kept held = option_map (λ bytes. kept ++ bytes) held

-- the input of this id gave some bytes from its front, and nothing else changed; this holds of the bytes
pub record OnlyRead (id : ℕ) (old new : Inputs) (What : List ℕ → Type 0) : Type 0 where
  pub bytes : List ℕ
  pub gave : Gave id old new bytes
  pub taken : What bytes

-- one byte was taken; or none followed; or a fault came and none was
abbrev pub TakesByte : Result (Option ℕ) HostFail → Option (List ℕ) → List ℕ → Type 0
TakesByte (Ok (Some byte)) left bytes = bytes ≡ byte ∷ []
TakesByte (Ok None) left bytes = (bytes ≡ []) × IsAtEnd left
TakesByte (Err why) left bytes = bytes ≡ []

-- the bytes stand at the front of the head, which is full unless the input ended; or a fault came and it isn't
abbrev pub TakesHead : Result ℕ HostFail → List ℕ → Option (List ℕ) → List ℕ → Type 0
TakesHead (Ok found) head left bytes = (found ≤ length head) × (bytes ≡ take found head) × (found < length head → IsAtEnd left)
TakesHead (Err why) head left bytes = length bytes < length head

-- that many bytes were taken; or none followed and fewer were; or a fault came and fewer were
abbrev pub TakesCount : Result (Option (List ℕ)) HostFail → ℕ → Option (List ℕ) → List ℕ → Type 0
TakesCount (Ok (Some all)) count left bytes = (bytes ≡ all) × (length all ≡ count)
TakesCount (Ok None) count left bytes = (length bytes < count) × IsAtEnd left
TakesCount (Err Failed) count left bytes = length bytes < count
TakesCount (Err NoMemory) count left bytes = Unit {0}

-- the length of the record that these bytes begin, as far as they tell it: a head, and the captured bytes
abbrev pub record_length : Form → List ℕ → ℕ
record_length form r = if nat_lt (length r) 16 then 16 else 16 + captured form r

-- the bytes of one packet's record were taken; none at the end; or a fault came, and fewer than a record were
abbrev pub TakesRecord : Result Found HostFail → Form → ℕ → List ℕ → Type 0
TakesRecord (Ok (found.Packet packet)) form number bytes = record_at form number bytes ≡ One packet []
TakesRecord (Ok found.End) form number bytes = bytes ≡ []
TakesRecord (Ok (found.Broken code)) form number bytes = Unit {0}
TakesRecord (Err Failed) form number bytes = length bytes < record_length form bytes
TakesRecord (Err NoMemory) form number bytes = Unit {0}

-- what was found is what stood there, and a packet's rest is left
abbrev pub Finds : Result Found HostFail → Step → Option (List ℕ) → Type 0
Finds (Ok found.End) step left = (step ≡ AtEnd) × (left ≡ Some [])
Finds (Ok (found.Broken code)) step left = step ≡ NoRecord code
Finds (Ok (found.Packet packet)) step left = (rest : List ℕ) × (left ≡ Some rest) × (step ≡ One packet rest)
Finds (Err why) step left = Unit {0}

-- a packet's stamp is in its range
abbrev pub IsStamped : Result Found HostFail → ℕ → Type 0
IsStamped (Ok (found.Packet packet)) most = packet.stamp < most
IsStamped _ most = Unit {0}
