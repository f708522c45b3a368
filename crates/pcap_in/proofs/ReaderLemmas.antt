-- What a step of the records is to a reader that takes it.
use Rattle.std.proofs.Common.{◌≡◌, ◌<◌, ◌≤◌, ◌+◌, ◌-◌, ◌^◌, min, ℕ, true, List, [], length, Option, Some, None, IfSome, Err, Ok, refl, sym, ap, ◌∙◌, length-append, arith}
use Rattle.std.specs.Prelude.{option_map}
use Rattle.npd_host.specs.Host.{FrontIs}
use Rattle.npd_host.specs.declared.host.HostFail.{HostFail}
use Rattle.npd_host.specs.declared.host.HostFail.TheVariants.{Failed, NoMemory}
use Rattle.db_model.specs.declared.packet.Packet.{Packet}
use Rattle.pcap_in.specs.declared.form.Form.{Form}
use Rattle.pcap_in.specs.declared.record.Found.TheVariants as found
use Rattle.pcap_in.specs.declared.state.State.{State}
use Rattle.pcap_in.specs.declared.state.State.TheVariants as state
use Rattle.pcap_in.specs.declared.next.Next.TheVariants as next
use Rattle.pcap_in.specs.declared.fail.CapFail.TheVariants as fail
use Rattle.pcap_in.specs.Fail.{cap_fail_of}
use Rattle.pcap_in.specs.Capture.{Seen, Step, AtEnd, NoRecord, One, broken_end, record_at, record_size, step_then, records}
use Rattle.pcap_in.specs.Reading.{ahead, TakesRecord, Finds}
use Rattle.pcap_in.specs.Reader.{Reader, is_usable, left_of, Comes, Takes, reader_after}
use Rattle.pcap_in.proofs.Records.{records_step, length-record}

-- a usable reader that met nothing broken is reading
pub reading : (s : State) → is_usable s ≡ true → ((offset code : ℕ) → s ≡ state.Broken offset code → ⊥) → s ≡ state.Reading
reading state.Reading usable whole = refl
reading (state.Broken offset code) usable whole = absurd (whole offset code refl)
reading state.Unusable usable whole = absurd (cc)

-- the records, where the step at their front is known
pub records-at : (form : Form) (number offset : ℕ) (r : List ℕ) (s : Step) → record_at form number r ≡ s
    → records form number offset r ≡ step_then offset s (λ packet rest. records form (number + 1) (offset + record_size packet) rest)
records-at form number offset r s e =
    records_step form number offset r ∙ ap (λ (x : Step). step_then offset x (λ packet rest. records form (number + 1) (offset + record_size packet) rest)) e

pub Comes-end : (form : Form) (number offset : ℕ) (old new : Option (List ℕ)) → IfSome old (λ r. Finds (Ok found.End) (record_at form number r) new)
    → IfSome (left_of state.Reading form number offset old) (λ s. Comes (Ok next.End) s (left_of state.Reading form number offset (ahead [] new)))
Comes-end form number offset None new finds = tt
Comes-end form number offset (Some r) new finds =
    let seen = records-at form number offset r AtEnd finds.0 in
    let none = records-at form number offset [] AtEnd refl in
    (seen, ap (λ (o : Option (List ℕ)). option_map (records form number offset) (ahead [] o)) finds.1 ∙ ap Some (none ∙ sym seen))

pub Comes-broken : (form : Form) (number offset code : ℕ) (old : Option (List ℕ)) → IfSome old (λ r. record_at form number r ≡ NoRecord code)
    → IfSome (left_of state.Reading form number offset old) (λ s. Comes (Err (fail.Broken offset code)) s (Some (broken_end offset code)))
Comes-broken form number offset code None finds = tt
Comes-broken form number offset code (Some r) finds =
    let seen = records-at form number offset r (NoRecord code) finds in
    (seen, ap Some (sym seen))

pub Comes-packet : (form : Form) (number offset number' offset' : ℕ) (packet : Packet) (old new : Option (List ℕ)) → IfSome old (λ r. Finds (Ok (found.Packet packet)) (record_at form number r) new)
    → IfSome old (λ r. (number ≤ offset) × (offset + length r < 2 ^ 64)) → number' ≡ min (number + 1) (2 ^ 64 - 1) → offset' ≡ min (offset + record_size packet) (2 ^ 64 - 1)
    → IfSome (left_of state.Reading form number offset old) (λ s. Comes (Ok (next.Packet packet)) s (left_of state.Reading form number' offset' (ahead [] new)))
Comes-packet form number offset number' offset' packet None new finds reach n o = tt
Comes-packet form number offset number' offset' packet (Some r) new finds reach n o =
    let rest = finds.0 in
    let long = length-record form number r packet rest finds.2 in
    let number_is : number' ≡ number + 1 = omega arith in
    let offset_is : offset' ≡ offset + record_size packet = omega arith in (
      records form (number + 1) (offset + record_size packet) rest,
      ap (λ (o : Option (List ℕ)). option_map (records form number' offset') (ahead [] o)) finds.1
          ∙ ap (λ (n : ℕ). Some (records form n offset' rest)) number_is
          ∙ ap (λ (o : ℕ). Some (records form (number + 1) o rest)) offset_is,
      records-at form number offset r (One packet rest) finds.2,
    )

-- a refusal of the host says nothing of what is left
pub Comes-refusal : (refusal : HostFail) (seen after : Option Seen) → IfSome seen (λ s. Comes (Err (cap_fail_of refusal)) s after)
Comes-refusal Failed None after = tt
Comes-refusal Failed (Some s) after = tt
Comes-refusal NoMemory None after = tt
Comes-refusal NoMemory (Some s) after = tt

-- it takes what the reading of the record took
pub Takes-refusal : (refusal : HostFail) (form : Form) (number : ℕ) (bytes kept : List ℕ) → TakesRecord (Err refusal) form number bytes → Takes (Err (cap_fail_of refusal)) form number bytes kept
Takes-refusal Failed form number bytes kept h = h
Takes-refusal NoMemory form number bytes kept h = h

-- it leaves the reader unusable
pub reader_after-refusal : (refusal : HostFail) (r : Reader) → record r { kept = []; state = state.Unusable } ≡ reader_after (Err (cap_fail_of refusal)) r []
reader_after-refusal Failed r = refl
reader_after-refusal NoMemory r = refl

-- a read fault is the host's
pub refusal-failed : (refusal : HostFail) → cap_fail_of refusal ≡ fail.ReadFault → refusal ≡ Failed
refusal-failed Failed e = refl
refusal-failed NoMemory e = absurd (cc)

-- what is in reach stays so where bytes are taken and the number and the offset stay
pub reach-same : (number offset : ℕ) (old new : Option (List ℕ)) (bytes : List ℕ) → FrontIs old new bytes → IfSome old (λ r. (number ≤ offset) × (offset + length r < 2 ^ 64))
    → IfSome (ahead [] new) (λ r. (number ≤ offset) × (offset + length r < 2 ^ 64))
reach-same number offset None new bytes front reach = rw front tt
reach-same number offset (Some r) new bytes front reach =
    let both = ap length front.2 ∙ length-append bytes front.0 in
    rw front.1 (omega arith, omega arith)

-- and behind the record of a packet
pub reach-next : (form : Form) (number offset number' offset' : ℕ) (packet : Packet) (old new : Option (List ℕ)) (bytes : List ℕ) → FrontIs old new bytes
    → IfSome old (λ r. Finds (Ok (found.Packet packet)) (record_at form number r) new)
    → IfSome old (λ r. (number ≤ offset) × (offset + length r < 2 ^ 64)) → number' ≡ min (number + 1) (2 ^ 64 - 1) → offset' ≡ min (offset + record_size packet) (2 ^ 64 - 1)
    → IfSome (ahead [] new) (λ r. (number' ≤ offset') × (offset' + length r < 2 ^ 64))
reach-next form number offset number' offset' packet None new bytes front finds reach n o = rw front tt
reach-next form number offset number' offset' packet (Some r) new bytes front finds reach n o =
    let long = length-record form number r packet finds.0 finds.2 in
    rw finds.1 (omega arith, omega arith)
