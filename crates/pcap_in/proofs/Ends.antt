-- Where a capture ends: what is ahead there, and what a limit of packets makes of it.
use Rattle.std.proofs.Common.{◌≡◌, ◌<◌, ◌≤◌, ◌+◌, ℕ, zero, suc, Bool, true, false, cond, ltb, List, [], ◌∷◌, ◌++◌, length, take, drop, Result, Ok, Err, refl, sym, ap, ◌∙◌, append-nil, length-append, length-drop, subst, arith}
use Rattle.std.specs.Prelude.{◌&&◌, nat_le, nat_lt, if◌then◌else◌}
use Rattle.std.proofs.lemmas.Bool.Decides.{nat_tests}
use Rattle.std.proofs.lemmas.List.{take_all, take_at}
use Rattle.db_model.specs.declared.packet.Packet.{Packet}
use Rattle.pcap_in.specs.declared.form.Form.{Form}
use Rattle.pcap_in.specs.Capture.{End, Whole, Broken, Limit, Seen, whole_end, with_front, Step, AtEnd, NoRecord, One, form_of, checked, header, from_header, record_at, record_size, step_then, first_records, records, records_size, passes, cap, seen}
use Rattle.pcap_in.specs.Laws.{EndsWithoutBytes}
use Rattle.pcap_in.proofs.Records.{length-record, length-rest, at_end-none, no_record-some}
use Rattle.pcap_in.proofs.ReaderLemmas.{records-at}

-- more than the end is seen of a byte
not_broken : (offset code : ℕ) → Broken offset code ≡ Whole → ⊥
not_broken offset code e = cc

not_empty : (packet : Packet) (packets : List Packet) → packet ∷ packets ≡ [] → ⊥
not_empty packet packets e = cc

step-more : (offset : ℕ) (s : Step) (more : Packet → List ℕ → Seen) → (s ≡ AtEnd → ⊥) → step_then offset s more ≡ whole_end → ⊥
step-more offset AtEnd more some e = some refl
step-more offset (NoRecord code) more some e = not_broken offset code (ap (λ (s : Seen). s.end) e)
step-more offset (One packet rest) more some e = not_empty packet (more packet rest).packets (ap (λ (s : Seen). s.packets) e)

pub records-more : (form : Form) (number offset : ℕ) (r : List ℕ) → 0 < length r → records form number offset r ≡ whole_end → ⊥
records-more form number offset r some e =
    step-more offset (record_at form number r) _ (λ at. let none = at_end-none form number r at in omega arith)
    (sym (records-at form number offset r (record_at form number r) refl) ∙ e)

-- and nothing else of none
pub records-none : (form : Form) (number offset : ℕ) → records form number offset [] ≡ whole_end
records-none form number offset = records-at form number offset [] AtEnd refl

ends-only : (form : Form) (number offset : ℕ) (r : List ℕ) → records form number offset r ≡ whole_end → r ≡ []
ends-only form number offset [] e = refl
ends-only form number offset (byte ∷ bytes) e = absurd (records-more form number offset (byte ∷ bytes) (omega arith) e)

pub ends_without_bytes : EndsWithoutBytes
ends_without_bytes form number offset r =
    (ends-only form number offset r, λ none. ap (records form number offset) none ∙ records-none form number offset)

-- of so many bytes, these are those of the records before such an end
abbrev EndsAt : End → ℕ → ℕ → Type 0
EndsAt Whole size all = size ≡ all
EndsAt (Broken offset code) size all = size < all
EndsAt Limit size all = ⊥

abbrev Spans : Seen → ℕ → Type 0
Spans s all = EndsAt s.end (records_size s.packets) all

EndsAt-more : (end : End) (size rest all : ℕ) (one : ℕ) → EndsAt end size rest → all ≡ one + rest → EndsAt end (one + size) all
EndsAt-more Whole size rest all one h e = omega arith
EndsAt-more (Broken offset code) size rest all one h e = omega arith
EndsAt-more Limit size rest all one h e = h

step-spans : (offset : ℕ) (s : Step) (more : Packet → List ℕ → Seen) (all : ℕ) → (s ≡ AtEnd → all ≡ 0) → ((code : ℕ) → s ≡ NoRecord code → 0 < all)
    → ((packet : Packet) (rest : List ℕ) → s ≡ One packet rest → (all ≡ record_size packet + length rest) × Spans (more packet rest) (length rest)) → Spans (step_then offset s more) all
step-spans offset AtEnd more all none some one = sym (none refl)
step-spans offset (NoRecord code) more all none some one = some code refl
step-spans offset (One packet rest) more all none some one =
    let h = one packet rest refl in
    EndsAt-more (more packet rest).end (records_size (more packet rest).packets) (length rest) all (record_size packet) h.1 h.0

first_records-span : (n : ℕ) (form : Form) (number offset : ℕ) (r : List ℕ) → length r < n → Spans (first_records n form number offset r) (length r)
unfolding first_records
first_records-span zero form number offset r h = absurd (omega arith)
first_records-span (suc n) form number offset r h =
    step-spans offset (record_at form number r) _ (length r) (at_end-none form number r) (no_record-some form number r)
    (λ packet rest e. (
      length-record form number r packet rest e,
      (let shorter = length-rest form number r packet rest e in first_records-span n form (number + 1) (offset + record_size packet) rest (omega arith)),
    ))

records-span : (form : Form) (number offset : ℕ) (r : List ℕ) → Spans (records form number offset r) (length r)
unfolding records
records-span form number offset r = first_records-span (suc (length r)) form number offset r (omega arith)

-- a header is 24 bytes
header-long : (b : List ℕ) (form : Form) → header b ≡ Ok form → 24 ≤ length b
header-long b form e = by_test (ltb (length b) 24) refl
  where
    by_test : (test : Bool) → ltb (length b) 24 ≡ test → 24 ≤ length b
    by_test true is = absurd (let short : header b ≡ Err (Broken 0 1) = ap (λ (t : Bool). cond t (Err (Broken 0 1)) (checked b (form_of b))) is in cc)
    by_test false is = grind (arith, nat_tests)

-- the bytes behind the header of a capture with packets
record Behind (b : List ℕ) (s : Seen) : Type 0 where
  all : ℕ
  behind : 24 + all ≡ length b
  spans : Spans s all

behind_header : (b : List ℕ) (s : Seen) (h : Result Form End) → header b ≡ h → from_header h b ≡ s → 0 < length s.packets → Behind b s
behind_header b s (Err end) is e some =
    let none : length s.packets ≡ 0 = sym (ap (λ (s : Seen). length s.packets) e) in absurd (omega arith)
behind_header b s (Ok form) is e some =
    let long = header-long b form is in
    let rest = length-drop 24 b in
    let P : Seen → Type 0 = λ s. Spans s (length (drop 24 b)) in
    record { all = length (drop 24 b); behind = omega arith; spans = subst P e (records-span form 0 24 (drop 24 b)) }

records_size-append : (xs ys : List Packet) → records_size (xs ++ ys) ≡ records_size xs + records_size ys
records_size-append [] ys = omega arith
records_size-append (x ∷ xs) ys = let e = records_size-append xs ys in omega arith

-- bytes follow the first packets of a capture that doesn't end behind them
follows-by : (packets more : List Packet) (end : End) (all : ℕ) → EndsAt end (records_size (packets ++ more)) all → (◌≡◌ {A = Seen} (record { packets = more; end = end }) whole_end → ⊥)
    → records_size packets < all
follows-by packets [] Whole all h real = absurd (real refl)
follows-by packets [] (Broken offset code) all h real = let e = records_size-append packets [] in omega arith
follows-by packets [] Limit all h real = absurd h
follows-by packets (p ∷ ps) Whole all h real = let e = records_size-append packets (p ∷ ps) in omega arith
follows-by packets (p ∷ ps) (Broken offset code) all h real = let e = records_size-append packets (p ∷ ps) in omega arith
follows-by packets (p ∷ ps) Limit all h real = absurd h

-- what is seen with a limit of a capture that is known
abbrev made : List Packet → Bool → End → Seen
made packets is_passed end = record { packets = packets; end = if is_passed then Limit else end }

abbrev cut : ℕ → Seen → List ℕ → Seen
cut most s b = made (take most s.packets) (passes most s.packets b) s.end

seen-cut : (b : List ℕ) (s : Seen) (most : ℕ) → cap b ≡ s → seen b most ≡ cut most s b
unfolding seen
seen-cut b s most e = ap (λ (s : Seen). cut most s b) e

test-below : (most n : ℕ) (is : Bool) → n < most → (nat_le most n && is) ≡ false
test-below most n is few = grind (arith, nat_tests)

test-end : (most n size all : ℕ) → all ≤ size → (nat_le most n && nat_lt size all) ≡ false
test-end most n size all end = grind (arith, nat_tests)

test-limit : (most n size all : ℕ) → most ≤ n → size < all → (nat_le most n && nat_lt size all) ≡ true
test-limit most n size all many more = grind (arith, nat_tests)

cut-below : (b : List ℕ) (packets more : List Packet) (end : End) (most : ℕ) → length packets < most → more ≡ []
    → cut most (record { packets = packets ++ more; end = end }) b ≡ record { packets = packets; end = end }
cut-below b packets more end most few none =
    let all : packets ++ more ≡ packets = ap (λ (l : List Packet). packets ++ l) none ∙ append-nil packets in
    let taken : take most packets ≡ packets = take_all most packets (omega arith) in
    ap (λ (l : List Packet). made (take most l) (passes most l b) end) all
    ∙ ap (λ (l : List Packet). made l (passes most packets b) end) taken
    ∙ ap (λ (t : Bool). made packets t end) (test-below most (length packets) _ few)

cut-end : (b : List ℕ) (packets : List Packet) (most : ℕ) → length packets ≡ most → 24 + records_size packets ≡ length b
    → cut most (record { packets = packets ++ []; end = Whole }) b ≡ record { packets = packets; end = Whole }
cut-end b packets most few size =
    let taken : take most packets ≡ packets = take_all most packets (omega arith) in
    ap (λ (l : List Packet). made (take most l) (passes most l b) Whole) (append-nil packets)
    ∙ ap (λ (l : List Packet). made l (nat_le most (length packets) && nat_lt (24 + records_size l) (length b)) Whole) taken
    ∙ ap (λ (t : Bool). made packets t Whole) (test-end most (length packets) (24 + records_size packets) (length b) (omega arith))

cut-limit : (b : List ℕ) (packets more : List Packet) (end : End) (most : ℕ) → length packets ≡ most → 24 + records_size packets < length b
    → cut most (record { packets = packets ++ more; end = end }) b ≡ record { packets = packets; end = Limit }
cut-limit b packets more end most few size =
    let taken : take most (packets ++ more) ≡ packets = take_at packets more most few in
    let both = length-append packets more in
    ap (λ (l : List Packet). made l (nat_le most (length (packets ++ more)) && nat_lt (24 + records_size l) (length b)) end) taken
    ∙ ap (λ (t : Bool). made packets t end) (test-limit most (length (packets ++ more)) (24 + records_size packets) (length b) (omega arith) size)

-- the bytes behind the header, where the packets read are as many as may be
behind : (b : List ℕ) (packets : List Packet) (rest : Seen) (most : ℕ) → 0 < most → length packets ≡ most → cap b ≡ with_front packets rest → Behind b (with_front packets rest)
behind b packets rest most some full e =
    let both = length-append packets rest.packets in
    behind_header b (with_front packets rest) (header b) refl e (omega arith)

at_end : (b : List ℕ) (packets : List Packet) (rest : Seen) (most : ℕ) → 0 < most → cap b ≡ with_front packets rest → length packets ≡ most → rest ≡ whole_end
    → seen b most ≡ record { packets = packets; end = Whole }
at_end b packets rest most some e full ends =
    let P : Seen → Type 0 = λ s. cap b ≡ with_front packets s in
    let whole = subst P ends e in
    let h = behind b packets whole_end most some full whole in
    let size = records_size-append packets [] in
    let spans : records_size (packets ++ []) ≡ h.all = h.spans in
    let all_is = h.behind in
    seen-cut b (with_front packets whole_end) most whole ∙ cut-end b packets most full (omega arith)

at_limit : (b : List ℕ) (packets : List Packet) (rest : Seen) (most : ℕ) → 0 < most → cap b ≡ with_front packets rest → length packets ≡ most → (rest ≡ whole_end → ⊥)
    → seen b most ≡ record { packets = packets; end = Limit }
at_limit b packets rest most some e full goes_on =
    let h = behind b packets rest most some full e in
    let more = follows-by packets rest.packets rest.end h.all h.spans goes_on in
    let all_is = h.behind in
    seen-cut b (with_front packets rest) most e ∙ cut-limit b packets rest.packets rest.end most full (omega arith)

-- what is seen with a limit of a capture of which these packets were read, and this is left to see
pub record IsSeenSoFar (b : List ℕ) (packets : List Packet) (rest : Seen) (most : ℕ) : Type 0 where
  pub below : length packets < most → rest.packets ≡ [] → seen b most ≡ record { packets = packets; end = rest.end }
  pub at_end : length packets ≡ most → rest ≡ whole_end → seen b most ≡ record { packets = packets; end = Whole }
  pub at_limit : length packets ≡ most → (rest ≡ whole_end → ⊥) → seen b most ≡ record { packets = packets; end = Limit }

pub seen_is_read : (b : List ℕ) (packets : List Packet) (rest : Seen) (most : ℕ) → 0 < most → cap b ≡ with_front packets rest → IsSeenSoFar b packets rest most
seen_is_read b packets rest most some e = record {
  below = λ few none. seen-cut b (with_front packets rest) most e ∙ cut-below b packets rest.packets rest.end most few none;
  at_end = at_end b packets rest most some e;
  at_limit = at_limit b packets rest most some e;
}
