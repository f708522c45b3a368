-- Bytes that leave the machine in its mode, and only go on with what is being read.
use Rattle.std.proofs.Common.{◌≡◌, ◌≤◌, ◌==◌, ◌&&◌, ◌||◌, ℕ, zero, suc, Bool, true, false, List, [], ◌∷◌, ◌++◌, length, take, drop, Option, Some, None, refl, sym, ap, subst, ◌∙◌, arith, append_assoc, append-nil, if◌then◌else◌}
use Rattle.std.specs.Prelude.{nat_le, not}
use Rattle.std.specs.List.{list_all}
use Rattle.db_text.specs.declared.mode.Mode.{Mode}
use Rattle.db_text.specs.declared.mode.Mode.TheVariants as mode
use Rattle.db_text.specs.declared.node.Node.{Node}
use Rattle.db_text.specs.declared.notes.Notes.{Notes}
use Rattle.db_text.specs.declared.parts.Parts.{Parts}
use Rattle.db_text.specs.declared.mode.Act.TheVariants as act
use Rattle.db_text.specs.Machine.{is_plain, keeps, lengthened, parts, doing, go, when, in_value, in_attribute_name, before_equals}
use Rattle.db_text.specs.Outcome.{outcome, after, built, after_part}
use Rattle.db_text.specs.Text.{is_space, is_char, is_name_byte, as_space, next_line}
use Rattle.db_text.proofs.ByteTests.{both, same, by_space, conj}

-- a byte that is one isn't the other
not_line : (P : ℕ → Bool) → P 0x0A ≡ false → (b : ℕ) → P b ≡ true → (b == 0x0A) ≡ false
not_line P e b h = by_test (b == 0x0A) refl
  where
    by_test : (t : Bool) → (b == 0x0A) ≡ t → (b == 0x0A) ≡ false
    by_test false q = q
    by_test true q = let s : P 0x0A ≡ true = subst (λ c. P c ≡ true) (same b 0x0A q) h in cc

stays_on_line : (P : ℕ → Bool) → P 0x0A ≡ false → (line b : ℕ) → P b ≡ true → next_line line b ≡ line
stays_on_line P e line b h = ap (λ t. if t then suc line else line) (not_line P e b h)

plain_is_itself : (b : ℕ) → nat_le 0x20 b ≡ true → as_space b ≡ b
plain_is_itself b h = by_test (is_space b) refl
  where
    by_test : (t : Bool) → is_space b ≡ t → as_space b ≡ b
    by_test false e = ap (λ t. if t then 0x20 else b) e
    by_test true e = by_space (λ c. nat_le 0x20 c ≡ true → as_space c ≡ c) (λ g. cc) (λ g. cc) (λ g. cc) (λ g. refl) b e h

last_of : (a b c d : Bool) → d ≡ true → (a || b || c || d) ≡ true
last_of true b c d h = refl
last_of false true c d h = refl
last_of false false true d h = refl
last_of false false false d h = h

plain_is_char : (quote b : ℕ) → is_plain quote b ≡ true → is_char quote b ≡ true
plain_is_char quote b h =
    let g = both (nat_le 0x20 b && nat_le b 0x7E) (not (b == 0x3C || b == 0x26 || b == quote)) h in
    conj (last_of (b == 0x09) (b == 0x0A) (b == 0x0D) (nat_le 0x20 b && nat_le b 0x7E) g.0) g.1

in_plain : (quote b : ℕ) → is_plain quote b ≡ true → nat_le 0x20 b ≡ true
in_plain quote b h = (both (nat_le 0x20 b) (nat_le b 0x7E) (both (nat_le 0x20 b && nat_le b 0x7E) (not (b == 0x3C || b == 0x26 || b == quote)) h).0).0

-- what such a byte does
value_moves : (quote b : ℕ) → is_plain quote b ≡ true → in_value quote b ≡ doing (act.AddsToValue (as_space b)) (mode.Value quote)
value_moves quote b h = ap (λ t. if t then doing (act.AddsToValue (as_space b)) (mode.Value quote) else (if b == 0x26 then go (mode.Ampersand quote) else when (b == quote) (doing act.EndsAttribute mode.BehindValue))) (plain_is_char quote b h)

name_moves : (b : ℕ) → is_name_byte b ≡ true → in_attribute_name b ≡ doing (act.AddsToWord b) mode.AttributeName
name_moves b h = ap (λ t. if t then doing (act.AddsToWord b) mode.AttributeName else before_equals b) h

-- ---- the first pass

module _ (n : Notes) where
  value_stays : (quote line b : ℕ) (bs : List ℕ) → is_plain quote b ≡ true → outcome line (mode.Value quote) n (b ∷ bs) ≡ outcome line (mode.Value quote) n bs
  unfolding outcome
  value_stays quote line b bs h =
      ap (after line n (λ m' n'. outcome (next_line line b) m' n' bs)) (value_moves quote b h)
      ∙ ap (λ l. outcome l (mode.Value quote) n bs) (stays_on_line (is_plain quote) refl line b h)

  name_stays : (line b : ℕ) (bs : List ℕ) → is_name_byte b ≡ true → outcome line mode.AttributeName n (b ∷ bs) ≡ outcome line mode.AttributeName n bs
  unfolding outcome
  name_stays line b bs h =
      ap (after line n (λ m' n'. outcome (next_line line b) m' n' bs)) (name_moves b h)
      ∙ ap (λ l. outcome l mode.AttributeName n bs) (stays_on_line is_name_byte refl line b h)

  one_stays : (m : Mode) (line b : ℕ) (bs : List ℕ) → keeps m b ≡ true → outcome line m n (b ∷ bs) ≡ outcome line m n bs
  one_stays mode.AttributeName line b bs h = name_stays line b bs h
  one_stays (mode.Value quote) line b bs h = value_stays quote line b bs h
  one_stays _ line b bs h = cc

  pub all_stay : (m : Mode) (line k : ℕ) (bs : List ℕ) → list_all (keeps m) (take k bs) ≡ true → outcome line m n (drop k bs) ≡ outcome line m n bs
  all_stay m line zero bs h = refl
  all_stay m line (suc k) [] h = refl
  all_stay m line (suc k) (b ∷ bs) h = let g = both _ _ h in all_stay m line k bs g.1 ∙ sym (one_stays m line b bs g.0)

-- ---- the second pass

module _ (n : Notes) where
  value_adds : (quote line b : ℕ) (bs : List ℕ) (q : Parts) → is_plain quote b ≡ true → built line (mode.Value quote) n (lengthened (mode.Value quote) (b ∷ []) q) bs ≡ built line (mode.Value quote) n q (b ∷ bs)
  unfolding built
  value_adds quote line b bs q h = sym (
      ap (after_part n q (λ m' n' q'. built (next_line line b) m' n' q' bs)) (value_moves quote b h)
      ∙ ap (λ l. built l (mode.Value quote) n (parts q.frames q.word (q.value ++ as_space b ∷ []) q.top) bs) (stays_on_line (is_plain quote) refl line b h)
      ∙ ap (λ c. built line (mode.Value quote) n (parts q.frames q.word (q.value ++ c ∷ []) q.top) bs) (plain_is_itself b (in_plain quote b h)))

  name_adds : (line b : ℕ) (bs : List ℕ) (q : Parts) → is_name_byte b ≡ true → built line mode.AttributeName n (lengthened mode.AttributeName (b ∷ []) q) bs ≡ built line mode.AttributeName n q (b ∷ bs)
  unfolding built
  name_adds line b bs q h = sym (
      ap (after_part n q (λ m' n' q'. built (next_line line b) m' n' q' bs)) (name_moves b h)
      ∙ ap (λ l. built l mode.AttributeName n (parts q.frames (q.word ++ b ∷ []) q.value q.top) bs) (stays_on_line is_name_byte refl line b h))

  one_adds : (m : Mode) (line b : ℕ) (bs : List ℕ) (q : Parts) → keeps m b ≡ true → built line m n (lengthened m (b ∷ []) q) bs ≡ built line m n q (b ∷ bs)
  one_adds mode.AttributeName line b bs q h = name_adds line b bs q h
  one_adds (mode.Value quote) line b bs q h = value_adds quote line b bs q h
  one_adds _ line b bs q h = cc

  none_adds : (m : Mode) (q : Parts) → lengthened m [] q ≡ q
  none_adds mode.AttributeName q = ap (λ w. parts q.frames w q.value q.top) (append-nil q.word)
  none_adds (mode.Value quote) q = ap (λ v. parts q.frames q.word v q.top) (append-nil q.value)
  none_adds _ q = refl

  more_adds : (m : Mode) (b : ℕ) (bs : List ℕ) (q : Parts) → lengthened m bs (lengthened m (b ∷ []) q) ≡ lengthened m (b ∷ bs) q
  more_adds mode.AttributeName b bs q = ap (λ w. parts q.frames w q.value q.top) (append_assoc q.word (b ∷ []) bs)
  more_adds (mode.Value quote) b bs q = ap (λ v. parts q.frames q.word v q.top) (append_assoc q.value (b ∷ []) bs)
  more_adds _ b bs q = refl

  pub all_add : (m : Mode) (line k : ℕ) (bs : List ℕ) (q : Parts) → list_all (keeps m) (take k bs) ≡ true → built line m n (lengthened m (take k bs) q) (drop k bs) ≡ built line m n q bs
  all_add m line zero bs q h = ap (λ p. built line m n p bs) (none_adds m q)
  all_add m line (suc k) [] q h = ap (λ p. built line m n p []) (none_adds m q)
  all_add m line (suc k) (b ∷ bs) q h =
      let g = both _ _ h in
      ap (λ p. built line m n p (drop k bs)) (sym (more_adds m b (take k bs) q))
      ∙ all_add m line k bs (lengthened m (b ∷ []) q) g.1
      ∙ one_adds m line b bs q g.0
