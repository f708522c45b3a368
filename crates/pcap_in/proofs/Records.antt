-- What stands at the front of a capture's records, and the law of the records.
use Rattle.std.proofs.Common.{◌≡◌, ◌<◌, ◌≤◌, ◌+◌, ◌⊎◌, inl, inr, ℕ, suc, zero, Bool, true, false, cond, eqb, ltb, List, [], ◌∷◌, ◌++◌, length, take, drop, refl, sym, ap, ◌∙◌, append-nil, length-append, length-drop, arith}
use Rattle.std.proofs.lemmas.Bool.Decides.{nat_tests}
use Rattle.std.proofs.lemmas.List.{take_at, drop_at, drop-append-le, drop-drop, length-take-le}
use Rattle.byteorder.specs.Numbers.{little_from-append, big_from-append}
use Rattle.db_model.specs.declared.packet.Packet.{Packet}
use Rattle.pcap_in.specs.declared.form.Endian.{Endian}
use Rattle.pcap_in.specs.declared.form.Endian.TheVariants.{Little, Big}
use Rattle.pcap_in.specs.declared.form.Form.{Form}
use Rattle.pcap_in.specs.Capture.{Seen, with_front, Step, AtEnd, NoRecord, One, number_in, captured, packet_of, record_at, step_then, record_size, first_records, records}

-- the tests of `record_at`, on the length n and the captured length c
abbrev pub tested : ℕ → ℕ → Step → Step
tested n c one = cond (eqb n 0) AtEnd (cond (ltb n 16) (NoRecord 4) (cond (ltb 262144 c) (NoRecord 5) (cond (ltb n (16 + c)) (NoRecord 6) one)))

pub tested-whole : (n c : ℕ) (one : Step) → c ≤ 262144 → 16 + c ≤ n → tested n c one ≡ one
tested-whole n c one most fits = grind (arith, nat_tests)

pub tested-cut_head : (n c : ℕ) (one : Step) → 0 < n → n < 16 → tested n c one ≡ NoRecord 4
tested-cut_head n c one some cut = grind (arith, nat_tests)

pub tested-long : (n c : ℕ) (one : Step) → 16 ≤ n → 262144 < c → tested n c one ≡ NoRecord 5
tested-long n c one head long = grind (arith, nat_tests)

pub tested-cut_bytes : (n c : ℕ) (one : Step) → 16 ≤ n → c ≤ 262144 → n < 16 + c → tested n c one ≡ NoRecord 6
tested-cut_bytes n c one head most cut = grind (arith, nat_tests)

-- the two ways of a choice
cond-cases : (b : Bool) (x y z : Step) → cond b x y ≡ z → ((b ≡ true) × (x ≡ z)) ⊎ ((b ≡ false) × (y ≡ z))
cond-cases true x y z e = inl (refl, e)
cond-cases false x y z e = inr (refl, e)

pub tested-one : (n c : ℕ) (one : Step) (packet : Packet) (rest : List ℕ) → tested n c one ≡ One packet rest → (16 + c ≤ n) × (one ≡ One packet rest)
tested-one n c one packet rest e =
    elim (cond-cases (eqb n 0) AtEnd _ _ e) [
      | inl end ↦ absurd (cc)
      | inr some ↦
          elim (cond-cases (ltb n 16) (NoRecord 4) _ _ some.1) [
            | inl cut ↦ absurd (cc)
            | inr head ↦
                elim (cond-cases (ltb 262144 c) (NoRecord 5) _ _ head.1) [
                  | inl long ↦ absurd (cc)
                  | inr most ↦
                      elim (cond-cases (ltb n (16 + c)) (NoRecord 6) _ _ most.1) [
                        | inl cut ↦ absurd (cc)
                        | inr fits ↦ (grind (arith, nat_tests), fits.1)
                      ]
                ]
          ]
    ]

-- only no bytes are the end, and no record is some
tested-at_end : (n c : ℕ) (one : Step) → (one ≡ AtEnd → ⊥) → tested n c one ≡ AtEnd → n ≡ 0
tested-at_end n c one real e =
    elim (cond-cases (eqb n 0) AtEnd _ _ e) [
      | inl end ↦ grind (arith, nat_tests)
      | inr some ↦
          elim (cond-cases (ltb n 16) (NoRecord 4) _ _ some.1) [
            | inl cut ↦ absurd (cc)
            | inr head ↦
                elim (cond-cases (ltb 262144 c) (NoRecord 5) _ _ head.1) [
                  | inl long ↦ absurd (cc)
                  | inr most ↦
                      elim (cond-cases (ltb n (16 + c)) (NoRecord 6) _ _ most.1) [
                        | inl cut ↦ absurd (cc)
                        | inr fits ↦ absurd (real fits.1)
                      ]
                ]
          ]
    ]

tested-no_record : (n c code : ℕ) (one : Step) → tested n c one ≡ NoRecord code → 0 < n
tested-no_record n c code one e =
    elim (cond-cases (eqb n 0) AtEnd _ _ e) [
      | inl end ↦ absurd (cc)
      | inr some ↦ grind (arith, nat_tests)
    ]

pub at_end-none : (form : Form) (number : ℕ) (r : List ℕ) → record_at form number r ≡ AtEnd → length r ≡ 0
at_end-none form number r e = tested-at_end (length r) (captured form r) _ (λ one. cc) e

pub no_record-some : (form : Form) (number : ℕ) (r : List ℕ) (code : ℕ) → record_at form number r ≡ NoRecord code → 0 < length r
no_record-some form number r code e = tested-no_record (length r) (captured form r) code _ e

-- a record is that long, and the bytes behind it are the others
pub length-record : (form : Form) (number : ℕ) (r : List ℕ) (packet : Packet) (rest : List ℕ) → record_at form number r ≡ One packet rest → length r ≡ record_size packet + length rest
length-record form number r packet rest e =
    let c = captured form r in
    let h = tested-one (length r) c _ packet rest e in
    let fits = h.0 in
    let packet_is : packet_of form number r (take c (drop 16 r)) ≡ packet = (let s = h.1 in cc) in
    let at : drop (16 + c) r ≡ rest = (let s = h.1 in cc) in
    let bytes_are : take c (drop 16 r) ≡ packet.bytes = ap (λ (p : Packet). p.bytes) packet_is in
    let behind = length-drop 16 r in
    let few : length (take c (drop 16 r)) ≡ c = length-take-le c (drop 16 r) (omega arith) in
    let n = length-drop (16 + c) r in
    omega (arith, ap length at, ap length bytes_are)

-- the bytes behind a record are fewer
pub length-rest : (form : Form) (number : ℕ) (r : List ℕ) (packet : Packet) (rest : List ℕ) → record_at form number r ≡ One packet rest → length rest < length r
length-rest form number r packet rest e = omega (arith, length-record form number r packet rest e)

-- a step goes on alike where what follows its own packet is alike
step_then-alike : (offset : ℕ) (s : Step) (m n : Packet → List ℕ → Seen) → ((packet : Packet) (rest : List ℕ) → s ≡ One packet rest → m packet rest ≡ n packet rest) → step_then offset s m ≡ step_then offset s n
step_then-alike offset AtEnd m n h = refl
step_then-alike offset (NoRecord code) m n h = refl
step_then-alike offset (One packet rest) m n h = ap (with_front (packet ∷ [])) (h packet rest refl)

-- more than the length is enough
first_records-enough : (m n : ℕ) (form : Form) (number offset : ℕ) (r : List ℕ) → length r < m → length r < n → first_records m form number offset r ≡ first_records n form number offset r
unfolding first_records
first_records-enough zero n form number offset r p q = absurd (omega arith)
first_records-enough (suc m) zero form number offset r p q = absurd (omega arith)
first_records-enough (suc m) (suc n) form number offset r p q =
    step_then-alike offset (record_at form number r) _ _ (λ packet rest e.
    let h = length-rest form number r packet rest e in
    first_records-enough m n form (number + 1) (offset + record_size packet) rest (omega arith) (omega arith))

-- the records are what stands at the front, and the records behind it
pub records_step : (form : Form) (number offset : ℕ) (r : List ℕ) → records form number offset r
    ≡ step_then offset (record_at form number r) (λ packet rest. records form (number + 1) (offset + record_size packet) rest)
unfolding records first_records
records_step form number offset r =
    step_then-alike offset (record_at form number r) _ _ (λ packet rest e.
    let h = length-rest form number r packet rest e in
    first_records-enough (length r) (suc (length rest)) form (number + 1) (offset + record_size packet) rest (omega arith) (omega arith))

-- a number that stands in the head is that of the head
number_in-append : (endian : Endian) (n : ℕ) (bytes more : List ℕ) → n ≤ length bytes → number_in endian n (bytes ++ more) ≡ number_in endian n bytes
number_in-append Little n bytes more h = little_from-append n bytes more h
number_in-append Big n bytes more h = big_from-append n bytes more h

pub number-head : (endian : Endian) (n at : ℕ) (head more : List ℕ) → at + n ≤ length head → number_in endian n (drop at (head ++ more)) ≡ number_in endian n (drop at head)
number-head endian n at head more h =
    let behind = length-drop at head in
    ap (number_in endian n) (drop-append-le at head more (omega arith)) ∙ number_in-append endian n (drop at head) more (omega arith)

pub captured-head : (form : Form) (head more : List ℕ) → length head ≡ 16 → captured form (head ++ more) ≡ captured form head
captured-head form head more h = number-head form.endian 4 8 head more (omega arith)

packet_of-head : (form : Form) (number : ℕ) (head more bytes : List ℕ) → length head ≡ 16 → packet_of form number (head ++ more) bytes ≡ packet_of form number head bytes
packet_of-head form number head more bytes h =
    let seconds = number-head form.endian 4 0 head more (omega arith) in
    let fraction = number-head form.endian 4 4 head more (omega arith) in
    let long = number-head form.endian 4 12 head more (omega arith) in
    cc

-- a head and the bytes that it tells of are a record
pub record_at-whole : (form : Form) (number : ℕ) (head bytes rest : List ℕ) → length head ≡ 16 → captured form head ≡ length bytes → length bytes ≤ 262144
    → record_at form number (head ++ (bytes ++ rest)) ≡ One (packet_of form number head bytes) rest
record_at-whole form number head bytes rest h same most =
    let r = head ++ (bytes ++ rest) in
    let length_is = length-append head (bytes ++ rest) in
    let more_is = length-append bytes rest in
    let captured_is : captured form r ≡ length bytes = captured-head form head (bytes ++ rest) h ∙ same in
    let behind : drop 16 r ≡ bytes ++ rest = drop_at head (bytes ++ rest) 16 h in
    let bytes_are : take (length bytes) (drop 16 r) ≡ bytes = ap (take (length bytes)) behind ∙ take_at bytes rest (length bytes) refl in
    let rest_is : drop (16 + length bytes) r ≡ rest =
    sym (drop-drop (length bytes) 16 r) ∙ ap (drop (length bytes)) behind ∙ drop_at bytes rest (length bytes) refl in
    tested-whole (length r) (captured form r) _ (omega arith) (omega arith)
    ∙ ap (λ (c : ℕ). One (packet_of form number r (take c (drop 16 r))) (drop (16 + c) r)) captured_is
    ∙ ap (λ (b : List ℕ). One (packet_of form number r b) (drop (16 + length bytes) r)) bytes_are
    ∙ ap (λ (b : List ℕ). One (packet_of form number r bytes) b) rest_is
    ∙ ap (λ (p : Packet). One p rest) (packet_of-head form number head (bytes ++ rest) bytes h)

-- the same with nothing behind it
pub record_at-exact : (form : Form) (number : ℕ) (head bytes : List ℕ) → length head ≡ 16 → captured form head ≡ length bytes → length bytes ≤ 262144
    → record_at form number (head ++ bytes) ≡ One (packet_of form number head bytes) []
record_at-exact form number head bytes h same most =
    ap (λ (l : List ℕ). record_at form number (head ++ l)) (sym (append-nil bytes)) ∙ record_at-whole form number head bytes [] h same most

-- 1 to 15 bytes are no record
pub record_at-cut_head : (form : Form) (number : ℕ) (r : List ℕ) → 0 < length r → length r < 16 → record_at form number r ≡ NoRecord 4
record_at-cut_head form number r some cut = tested-cut_head (length r) (captured form r) _ some cut

-- a head that tells of too many bytes begins no record
pub record_at-long : (form : Form) (number : ℕ) (head rest : List ℕ) → length head ≡ 16 → 262144 < captured form head → record_at form number (head ++ rest) ≡ NoRecord 5
record_at-long form number head rest h long =
    let same = captured-head form head rest h in
    let both = length-append head rest in
    tested-long (length (head ++ rest)) (captured form (head ++ rest)) _ (omega arith) (omega arith)

-- a head and fewer bytes than it tells of are no record
pub record_at-cut_bytes : (form : Form) (number : ℕ) (head bytes : List ℕ) → length head ≡ 16 → captured form head ≤ 262144 → length bytes < captured form head
    → record_at form number (head ++ bytes) ≡ NoRecord 6
record_at-cut_bytes form number head bytes h most cut =
    let same = captured-head form head bytes h in
    let both = length-append head bytes in
    tested-cut_bytes (length (head ++ bytes)) (captured form (head ++ bytes)) _ (omega arith) (omega arith) (omega arith)
