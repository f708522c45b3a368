-- What the front of a capture is, whatever follows it.
use Rattle.std.proofs.Common.{◌≡◌, ◌<◌, ◌≤◌, ◌+◌, ℕ, Bool, true, false, cond, eqb, ltb, List, [], ◌++◌, length, take, drop, Result, Ok, refl, sym, ap, ◌∙◌, append_assoc, length-drop, arith}
use Rattle.std.proofs.lemmas.Bool.{false≢true}
use Rattle.std.proofs.lemmas.Bool.Decides.{nat_tests}
use Rattle.std.proofs.lemmas.List.{drop_at, length-take-le, take-append-drop}
use Rattle.db_model.specs.declared.packet.Packet.{Packet}
use Rattle.pcap_in.specs.declared.form.Form.{Form}
use Rattle.pcap_in.specs.Capture.{End, Seen, Step, AtEnd, NoRecord, One, header, from_header, captured, packet_of, record_at, step_then, record_size, records}
use Rattle.pcap_in.specs.Laws.{HeaderIsFront, RecordIsFront, RecordIsNumbered, PartHasNone}
use Rattle.pcap_in.proofs.Headers.{header-append}
use Rattle.pcap_in.proofs.Records.{tested, tested-one, captured-head, record_at-whole, records_step}

pub header_is_front : HeaderIsFront
header_is_front form head more h is =
    let e : header (head ++ more) ≡ Ok form = header-append head more h ∙ is in (
      e,
      ap (λ (r : Result Form End). from_header r (head ++ more)) e ∙ ap (records form 0 24) (drop_at head more 24 h),
    )

-- a record that stands there is no longer than a record may be
one-short : (long short : Bool) (n c : ℕ) (one : Step) (packet : Packet) (rest : List ℕ) → cond (eqb n 0) AtEnd (cond (ltb n 16) (NoRecord 4) (cond long (NoRecord 5) (cond short (NoRecord 6) one))) ≡ One packet rest → long ≡ false
one-short false short n c one packet rest e = refl
one-short true short n c one packet rest e = absurd (never (eqb n 0) (ltb n 16) e)
  where
    never : (none cut : Bool) → cond none AtEnd (cond cut (NoRecord 4) (NoRecord 5)) ≡ One packet rest → ⊥
    never true cut e = cc
    never false true e = cc
    never false false e = cc

one-most : (n c : ℕ) (one : Step) (packet : Packet) (rest : List ℕ) → tested n c one ≡ One packet rest → c ≤ 262144
one-most n c one packet rest e =
    let h = one-short (ltb 262144 c) (ltb n (16 + c)) n c one packet rest e in
    grind (arith, nat_tests)

-- a record stays one, whatever follows it
one-front : (form : Form) (number : ℕ) (bytes rest more : List ℕ) (packet : Packet) → record_at form number bytes ≡ One packet rest → record_at form number (bytes ++ more) ≡ One packet (rest ++ more)
one-front form number bytes rest more packet e =
    let c = captured form bytes in
    let whole = tested-one (length bytes) c _ packet rest e in
    let fits = whole.0 in
    let most = one-most (length bytes) c _ packet rest e in
    let head = take 16 bytes in
    let body = take c (drop 16 bytes) in
    let tail = drop c (drop 16 bytes) in
    let parts : head ++ (body ++ tail) ≡ bytes = ap (λ (l : List ℕ). head ++ l) (take-append-drop c (drop 16 bytes)) ∙ take-append-drop 16 bytes in
    let head_is : length head ≡ 16 = length-take-le 16 bytes (omega arith) in
    let behind_is = length-drop 16 bytes in
    let body_is : length body ≡ c = length-take-le c (drop 16 bytes) (omega arith) in
    let captured_is : c ≡ captured form head = ap (captured form) (sym parts) ∙ captured-head form head (body ++ tail) head_is in
    let same : captured form head ≡ length body = omega (arith, captured_is) in
    let few : length body ≤ 262144 = omega arith in
    let alone : record_at form number bytes ≡ One (packet_of form number head body) tail =
    ap (record_at form number) (sym parts) ∙ record_at-whole form number head body tail head_is same few in
    let packet_is : packet_of form number head body ≡ packet = (let s = sym alone ∙ e in cc) in
    let rest_is : tail ≡ rest = (let s = sym alone ∙ e in cc) in
    ap (λ (l : List ℕ). record_at form number (l ++ more)) (sym parts)
    ∙ ap (record_at form number) (append_assoc head (body ++ tail) more ∙ ap (λ (l : List ℕ). head ++ l) (append_assoc body tail more))
    ∙ record_at-whole form number head body (tail ++ more) head_is same few
    ∙ ap (λ (p : Packet). One p (tail ++ more)) packet_is
    ∙ ap (λ (l : List ℕ). One packet (l ++ more)) rest_is

pub record_is_front : RecordIsFront
record_is_front form number offset bytes rest more packet e =
    records_step form number offset (bytes ++ more)
    ∙ ap (λ (s : Step). step_then offset s (λ packet rest. records form (number + 1) (offset + record_size packet) rest)) (one-front form number bytes rest more packet e)

pub record_is_numbered : RecordIsNumbered
record_is_numbered form number bytes rest packet e =
    let c = captured form bytes in
    let whole = tested-one (length bytes) c _ packet rest e in
    let packet_is : packet_of form number bytes (take c (drop 16 bytes)) ≡ packet = (let s = whole.1 in cc) in
    sym (ap (λ (p : Packet). p.number) packet_is)

none_in : (none cut long short : Bool) (offset : ℕ) (one : Step) (more : Packet → List ℕ → Seen) → (none ≡ false → cut ≡ false → short ≡ true)
    → (step_then offset (cond none AtEnd (cond cut (NoRecord 4) (cond long (NoRecord 5) (cond short (NoRecord 6) one)))) more).packets ≡ []
none_in true cut long short offset one more h = refl
none_in false true long short offset one more h = refl
none_in false false true short offset one more h = refl
none_in false false false true offset one more h = refl
none_in false false false false offset one more h = absurd (false≢true (h refl refl))

short-of : (n c : ℕ) → n < cond (ltb n 16) 16 (16 + c) → ltb n 16 ≡ false → ltb n (16 + c) ≡ true
short-of n c short long = let h : n < 16 + c = rw long at short in grind (arith, nat_tests)

pub part_has_none : PartHasNone
part_has_none form number offset bytes short =
    ap (λ (s : Seen). s.packets) (records_step form number offset bytes)
    ∙ none_in (eqb (length bytes) 0) (ltb (length bytes) 16) (ltb 262144 (captured form bytes)) (ltb (length bytes) (16 + captured form bytes)) offset _ _
    (λ some cut. short-of (length bytes) (captured form bytes) short cut)
