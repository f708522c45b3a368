-- What one byte that is ahead tells of what is left to see.
use Rattle.std.proofs.Common.{◌≡◌, ◌<◌, ℕ, true, false, List, [], ◌∷◌, ◌++◌, length, Option, Some, None, IfSome, Ok, refl, sym, ap, ◌∙◌, subst, arith}
use Rattle.std.specs.Prelude.{option_map, option_to_list}
use Rattle.std.specs.Option.{is_some}
use Rattle.std.specs.Io.KnownBytes.{IsAtEnd}
use Rattle.npd_host.specs.Host.{FrontIs}
use Rattle.pcap_in.specs.declared.form.Form.{Form}
use Rattle.pcap_in.specs.declared.state.State.{State}
use Rattle.pcap_in.specs.declared.state.State.TheVariants as state
use Rattle.pcap_in.specs.Capture.{records}
use Rattle.pcap_in.specs.Reading.{ahead, TakesByte}
use Rattle.pcap_in.specs.Reader.{is_reading, left_of, Tells}
use Rattle.pcap_in.proofs.Ends.{records-more, records-none}

-- a reader that is reading
pub is-reading : (s : State) → is_reading s ≡ true → s ≡ state.Reading
is-reading state.Reading e = refl
is-reading (state.Broken offset code) e = absurd (cc)
is-reading state.Unusable e = absurd (cc)

pub none-kept : (kept : Option ℕ) → is_some kept ≡ false → kept ≡ None
none-kept None e = refl
none-kept (Some byte) e = absurd (cc)

-- a byte is kept
pub Tells-kept : (kept : Option ℕ) (form : Form) (number offset : ℕ) (held : Option (List ℕ)) → is_some kept ≡ true
    → IfSome (left_of state.Reading form number offset (ahead (option_to_list kept) held)) (λ s. Tells (Ok true) s (left_of state.Reading form number offset (ahead (option_to_list kept) held)))
Tells-kept None form number offset held e = absurd (cc)
Tells-kept (Some byte) form number offset None e = tt
Tells-kept (Some byte) form number offset (Some bytes) e =
    (records-more form number offset (byte ∷ bytes) (omega arith), refl)

-- a byte is read, or none is there
pub Tells-byte : (byte : Option ℕ) (form : Form) (number offset : ℕ) (old new : Option (List ℕ)) (bytes : List ℕ) → FrontIs old new bytes → TakesByte (Ok byte) new bytes
    → IfSome (left_of state.Reading form number offset (ahead [] old)) (λ s. Tells (Ok (is_some byte)) s (left_of state.Reading form number offset (ahead (option_to_list byte) new)))
Tells-byte byte form number offset None new bytes front taken = tt
Tells-byte (Some byte) form number offset (Some held) new bytes front taken =
    let rest = front.0 in
    let held_is : held ≡ byte ∷ rest = front.2 ∙ ap (λ (l : List ℕ). l ++ rest) taken in (
      (let P : List ℕ → Type 0 = λ l. 0 < length l in records-more form number offset held (subst P (sym held_is) (omega arith))),
      ap (λ (o : Option (List ℕ)). option_map (records form number offset) (ahead (byte ∷ []) o)) front.1 ∙ ap (λ (l : List ℕ). Some (records form number offset l)) (sym held_is),
    )
Tells-byte None form number offset (Some held) new bytes front taken =
    let P : Option (List ℕ) → Type 0 = λ o. IsAtEnd o in
    let rest_is : front.0 ≡ [] = subst P front.1 taken.1 in
    let held_is : held ≡ [] = front.2 ∙ ap (λ (l : List ℕ). l ++ front.0) taken.0 ∙ rest_is in
    let none = ap (records form number offset) held_is in (
      none ∙ records-none form number offset,
      ap (λ (o : Option (List ℕ)). option_map (records form number offset) (ahead [] o)) (front.1 ∙ ap Some rest_is) ∙ ap Some (sym none),
    )
