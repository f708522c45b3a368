-- What the file header at the front of a capture is, and what a reader sees behind it.
use Rattle.std.proofs.Common.{◌≡◌, ◌<◌, ◌≤◌, ◌+◌, ◌^◌, ◌%◌, ℕ, cond, ltb, List, [], ◌++◌, length, drop, Option, Some, None, Result, Ok, Err, IfSome, refl, sym, ap, ◌∙◌, length-append, arith}
use Rattle.std.specs.Prelude.{◌==◌, if◌then◌else◌, option_map}
use Rattle.std.specs.Option.{option_or}
use Rattle.std.proofs.lemmas.Bool.Decides.{nat_tests}
use Rattle.std.proofs.lemmas.List.{drop_at}
use Rattle.npd_host.specs.Host.{Inputs, FrontIs}
use Rattle.pcap_in.specs.declared.fail.CapFail.{CapFail}
use Rattle.pcap_in.specs.declared.fail.CapFail.TheVariants as fail
use Rattle.pcap_in.specs.declared.form.Endian.{Endian}
use Rattle.pcap_in.specs.declared.form.Endian.TheVariants.{Little, Big}
use Rattle.pcap_in.specs.declared.form.Form.{Form}
use Rattle.pcap_in.specs.declared.state.State.TheVariants as state
use Rattle.pcap_in.specs.Capture.{End, Broken, number_in, resolution_by, form_by, form_of, checked, header, from_header, records, cap}
use Rattle.pcap_in.specs.Reading.{HeaderIs, ahead}
use Rattle.pcap_in.specs.Reader.{left_of, Begins}
use Rattle.pcap_in.proofs.Records.{number-head}

-- the form by a magic number and a link type
form_with : Endian → ℕ → ℕ → Option Form
form_with endian magic link = option_map (λ resolution. record { endian = endian; resolution = resolution; link = link % 2 ^ 16 }) (resolution_by magic)

form_by-append : (endian : Endian) (head rest : List ℕ) → length head ≡ 24 → form_by endian (head ++ rest) ≡ form_by endian head
unfolding form_with
form_by-append endian head rest h =
    let magic = number-head endian 4 0 head rest (omega arith) in
    let link = number-head endian 4 20 head rest (omega arith) in
    ap (λ (m : ℕ). form_with endian m (number_in endian 4 (drop 20 (head ++ rest)))) magic
    ∙ ap (λ (l : ℕ). form_with endian (number_in endian 4 head) l) link

form_of-append : (head rest : List ℕ) → length head ≡ 24 → form_of (head ++ rest) ≡ form_of head
form_of-append head rest h =
    ap (λ (o : Option Form). option_or o (form_by Big (head ++ rest))) (form_by-append Little head rest h)
    ∙ ap (λ (o : Option Form). option_or (form_by Little head) o) (form_by-append Big head rest h)

versioned : Form → ℕ → Result Form End
versioned form version = if version == 2 then Ok form else Err (Broken 4 3)

checked-append : (head rest : List ℕ) (form : Option Form) → length head ≡ 24 → checked (head ++ rest) form ≡ checked head form
unfolding versioned
checked-append head rest None h = refl
checked-append head rest (Some form) h = ap (versioned form) (number-head form.endian 2 4 head rest (omega arith))

long-checked : (n : ℕ) (short long : Result Form End) → 24 ≤ n → cond (ltb n 24) short long ≡ long
long-checked n short long h = grind (arith, nat_tests)

-- the header is that of the first 24 bytes
pub header-append : (head rest : List ℕ) → length head ≡ 24 → header (head ++ rest) ≡ header head
header-append head rest h =
    let both = length-append head rest in
    long-checked (length (head ++ rest)) (Err (Broken 0 1)) (checked (head ++ rest) (form_of (head ++ rest))) (omega arith)
    ∙ ap (checked (head ++ rest)) (form_of-append head rest h)
    ∙ checked-append head rest (form_of head) h
    ∙ sym (long-checked (length head) (Err (Broken 0 1)) (checked head (form_of head)) (omega arith))

-- a header that is broken
pub Begins-fail : (why : CapFail) (old new : Option (List ℕ)) (head : List ℕ) (inputs : Inputs) → FrontIs old new head → length head ≡ 24 → HeaderIs (Err why) (header head) → IfSome old (λ bytes. Begins (Err why) bytes inputs)
Begins-fail (fail.Broken offset code) None new head inputs front h is = tt
Begins-fail (fail.Broken offset code) (Some bytes) new head inputs front h is =
    let e : header bytes ≡ Err (Broken offset code) = ap header front.2 ∙ header-append head front.0 h ∙ is in
    (e, ap (λ (r : Result Form End). from_header r bytes) e)
Begins-fail fail.ReadFault old new head inputs front h is = absurd is
Begins-fail fail.NoMemory old new head inputs front h is = absurd is

-- a header of a form, and what is left behind it
pub Begins-form : (form : Form) (old new : Option (List ℕ)) (head : List ℕ) → FrontIs old new head → length head ≡ 24 → header head ≡ Ok form
    → IfSome old (λ bytes. (header bytes ≡ Ok form) × (left_of state.Reading form 0 24 (ahead [] new) ≡ Some (cap bytes)))
Begins-form form None new head front h is = tt
Begins-form form (Some bytes) new head front h is =
    let rest = front.0 in
    let e : header bytes ≡ Ok form = ap header front.2 ∙ header-append head rest h ∙ is in
    let behind : drop 24 bytes ≡ rest = ap (drop 24) front.2 ∙ drop_at head rest 24 h in (
      e,
      ap (λ (o : Option (List ℕ)). option_map (records form 0 24) (ahead [] o)) front.1
          ∙ ap (λ (l : List ℕ). Some (records form 0 24 l)) (sym behind)
          ∙ ap (λ (r : Result Form End). Some (from_header r bytes)) (sym e),
    )

pub reach-begin : (old new : Option (List ℕ)) (head : List ℕ) → FrontIs old new head → length head ≡ 24 → IfSome old (λ bytes. length bytes < 2 ^ 64) → IfSome (ahead [] new) (λ r. (0 ≤ 24) × (24 + length r < 2 ^ 64))
reach-begin None new head front h bounded = rw front tt
reach-begin (Some bytes) new head front h bounded =
    let both = ap length front.2 ∙ length-append head front.0 in
    rw front.1 (omega arith, omega arith)
