-- What the reading of a record's head, and then of its captured bytes, comes to.
use Rattle.std.proofs.Common.{◌≡◌, ◌≤◌, ◌<◌, ◌+◌, ◌-◌, ℕ, List, [], ◌∷◌, ◌++◌, length, take, drop, Option, Some, None, IfSome, Err, Ok, sym, ap, ◌∙◌, append_assoc, append-nil, length-append, length-drop, subst, arith}
use Rattle.std.specs.Io.KnownBytes.{IsAtEnd}
use Rattle.std.proofs.lemmas.Bool.Decides.{nat_tests}
use Rattle.std.proofs.lemmas.List.{take_all, length-take-le}
use Rattle.std.proofs.Math.ListN.{set}
use borrow.Rule.Slice.PartMut.{mid_of, put_mid, same_len_mid}
use Rattle.npd_host.specs.Host.{FrontIs}
use Rattle.npd_host.proofs.Transfers.{take-put_mid_front}
use Rattle.npd_host.specs.declared.host.HostFail.{HostFail}
use Rattle.npd_host.specs.declared.host.HostFail.TheVariants.{Failed, NoMemory}
use Rattle.db_model.specs.declared.packet.Packet.{Packet}
use Rattle.pcap_in.specs.declared.form.Form.{Form}
use Rattle.pcap_in.specs.declared.record.Found.TheVariants as found
use Rattle.pcap_in.specs.Capture.{number_in, captured, packet_of, record_at}
use Rattle.pcap_in.specs.Reading.{ahead, TakesCount, TakesRecord, Finds}
use Rattle.pcap_in.proofs.Records.{captured-head, record_at-whole, record_at-exact, record_at-cut_head, record_at-long, record_at-cut_bytes}

-- what was kept stands in front of what is ahead, and of what was taken
pub FrontIs-ahead : (kept : List ℕ) (old new : Option (List ℕ)) (bytes : List ℕ) → FrontIs old new bytes → FrontIs (ahead kept old) new (kept ++ bytes)
FrontIs-ahead kept None new bytes front = front
FrontIs-ahead kept (Some held) new bytes front =
    (front.0, front.1, ap (λ (l : List ℕ). kept ++ l) front.2 ∙ sym (append_assoc kept bytes front.0))

-- a head of which some was kept and the rest was taken, and what was taken behind it
pub head-then : (kept taken head more : List ℕ) → kept ++ taken ≡ head → kept ++ (taken ++ more) ≡ head ++ more
head-then kept taken head more e = sym (append_assoc kept taken more) ∙ ap (λ (l : List ℕ). l ++ more) e

-- a head with the byte that was kept, and behind it what was read
pub head-kept : (byte k found : ℕ) (head read : List ℕ) → 0 < length head → found ≤ length read → byte ∷ take found read ≡ take (found + 1) (put_mid 1 k (set head 0 byte) read)
head-kept byte k found [] read some within = absurd (omega arith)
head-kept byte k found (first ∷ rest) read some within =
    let same : found + 1 ≡ 1 + found = omega arith in
    sym (ap (λ (n : ℕ). take n (put_mid 1 k (byte ∷ rest) read)) same ∙ take-put_mid_front 1 k found (byte ∷ rest) read (omega arith) within)

pub head-length : (byte : ℕ) (head read : List ℕ) → length read ≡ length (mid_of 1 (length (set head 0 byte) - 1) (set head 0 byte)) → 0 < length head
    → length (put_mid 1 (length (set head 0 byte) - 1) (set head 0 byte) read) ≡ length read + 1
head-length byte [] read long some = absurd (omega arith)
head-length byte (first ∷ rest) read long some =
    let whole = same_len_mid 1 (length (byte ∷ rest) - 1) (byte ∷ rest) read long in
    let behind : length (take (length (byte ∷ rest) - 1) rest) ≡ length (byte ∷ rest) - 1 = length-take-le (length (byte ∷ rest) - 1) rest (omega arith) in
    omega arith

-- a buffer that was filled
pub whole-buffer : (bytes : List ℕ) (found : ℕ) (buf : List ℕ) → bytes ≡ take found buf → length buf ≤ found → bytes ≡ buf
whole-buffer bytes found buf e full = e ∙ take_all found buf full

-- the number in the head's third quarter
pub captured-slice : (form : Form) (head : List ℕ) → length head ≡ 16 → number_in form.endian 4 (take 8 (drop 8 head)) ≡ captured form head
captured-slice form head h = let behind = length-drop 8 head in ap (number_in form.endian 4) (take_all 8 (drop 8 head) (omega arith))

-- what was taken up to the end is all that was ahead
taken-all : (r : List ℕ) (left : Option (List ℕ)) (bytes : List ℕ) → FrontIs (Some r) left bytes → IsAtEnd left → (r ≡ bytes) × (left ≡ Some [])
taken-all r left bytes front end =
    let P : Option (List ℕ) → Type 0 = λ o. IsAtEnd o in
    let none : front.0 ≡ [] = subst P front.1 end in
    (front.2 ∙ ap (λ (l : List ℕ). bytes ++ l) none ∙ append-nil bytes, front.1 ∙ ap Some none)

-- no byte, and none follows
pub Finds-end : (old left : Option (List ℕ)) (form : Form) (number : ℕ) (bytes : List ℕ) → FrontIs old left bytes → bytes ≡ [] → IsAtEnd left
    → IfSome old (λ r. Finds (Ok found.End) (record_at form number r) left)
Finds-end None left form number bytes front none end = tt
Finds-end (Some r) left form number bytes front none end =
    let all = taken-all r left bytes front end in
    (ap (record_at form number) (all.0 ∙ none), all.1)

-- fewer bytes than a head, and none follows
pub Finds-cut_head : (old left : Option (List ℕ)) (form : Form) (number : ℕ) (bytes : List ℕ) → FrontIs old left bytes → 0 < length bytes → length bytes < 16 → IsAtEnd left
    → IfSome old (λ r. Finds (Ok (found.Broken 4)) (record_at form number r) left)
Finds-cut_head None left form number bytes front some cut end = tt
Finds-cut_head (Some r) left form number bytes front some cut end =
    ap (record_at form number) (taken-all r left bytes front end).0 ∙ record_at-cut_head form number bytes some cut

-- a head that tells of too many bytes
pub Finds-long : (old left : Option (List ℕ)) (form : Form) (number : ℕ) (head : List ℕ) → FrontIs old left head → length head ≡ 16 → 262144 < captured form head
    → IfSome old (λ r. Finds (Ok (found.Broken 5)) (record_at form number r) left)
Finds-long None left form number head front h long = tt
Finds-long (Some r) left form number head front h long =
    ap (record_at form number) front.2 ∙ record_at-long form number head front.0 h long

-- a head and fewer bytes than it tells of, and none follows
pub Finds-cut_bytes : (old left : Option (List ℕ)) (form : Form) (number : ℕ) (head bytes : List ℕ) → FrontIs old left (head ++ bytes) → length head ≡ 16 → captured form head ≤ 262144 → length bytes < captured form head → IsAtEnd left
    → IfSome old (λ r. Finds (Ok (found.Broken 6)) (record_at form number r) left)
Finds-cut_bytes None left form number head bytes front h most cut end = tt
Finds-cut_bytes (Some r) left form number head bytes front h most cut end =
    ap (record_at form number) (taken-all r left (head ++ bytes) front end).0 ∙ record_at-cut_bytes form number head bytes h most cut

-- a head and the bytes that it tells of
pub Finds-packet : (old left : Option (List ℕ)) (form : Form) (number : ℕ) (head bytes : List ℕ) (packet : Packet) → FrontIs old left (head ++ bytes) → length head ≡ 16 → captured form head ≡ length bytes → length bytes ≤ 262144
    → packet ≡ packet_of form number head bytes → IfSome old (λ r. Finds (Ok (found.Packet packet)) (record_at form number r) left)
Finds-packet None left form number head bytes packet front h same most e = tt
Finds-packet (Some r) left form number head bytes packet front h same most e =
    let rest = front.0 in
    let ahead_is = front.2 ∙ append_assoc head bytes rest in
    (rest, front.1, rw e (ap (record_at form number) ahead_is ∙ record_at-whole form number head bytes rest h same most))

-- these are all of a packet's record
pub TakesRecord-packet : (form : Form) (number : ℕ) (head bytes : List ℕ) (packet : Packet) → length head ≡ 16 → captured form head ≡ length bytes → length bytes ≤ 262144
    → packet ≡ packet_of form number head bytes → TakesRecord (Ok (found.Packet packet)) form number (head ++ bytes)
TakesRecord-packet form number head bytes packet h same most e = rw e (record_at-exact form number head bytes h same most)

-- a fault within the head
pub TakesRecord-cut_head : (fail : HostFail) (form : Form) (number : ℕ) (bytes : List ℕ) → length bytes < 16 → TakesRecord (Err fail) form number bytes
TakesRecord-cut_head Failed form number bytes cut = grind (arith, nat_tests)
TakesRecord-cut_head NoMemory form number bytes cut = tt

-- a fault behind the head
pub TakesRecord-cut_bytes : (fail : HostFail) (form : Form) (number count : ℕ) (left : Option (List ℕ)) (head bytes : List ℕ) → length head ≡ 16 → captured form head ≡ count
    → TakesCount (Err fail) count left bytes → TakesRecord (Err fail) form number (head ++ bytes)
TakesRecord-cut_bytes Failed form number count left head bytes h same cut =
    let both = length-append head bytes in
    let captured_is = captured-head form head bytes h in
    grind (arith, nat_tests)
TakesRecord-cut_bytes NoMemory form number count left head bytes h same cut = tt
