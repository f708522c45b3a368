-- The machine's outcome is the answer that the grammar gives, and each answer excludes every other.
use Rattle.std.proofs.Common.{◌≡◌, ◌≢◌, ◌<◌, ◌≤◌, ◌+◌, ◌-◌, ◌==◌, if◌then◌else◌, ℕ, suc, Bool, true, false, List, [], ◌∷◌, ◌++◌, length, take, Option, Some, None, Ok, Err, ◌⊎◌, inl, inr, refl, sym, ap, subst, ◌∙◌, arith, append_assoc, append-nil}
use Rattle.std.proofs.lemmas.Bool.{eq-eqb, ne_eqb, cases_lt}
use Rattle.std.proofs.lemmas.List.{length-append}
use Rattle.std.proofs.Math.Seq.{take-append_seam, take-append-add, take-length}
use Rattle.db_cause.specs.declared.cause.Cause.TheVariants as cause
use Rattle.db_cause.specs.Codes
use Rattle.db_text.specs.declared.mode.Mode.{Mode}
use Rattle.db_text.specs.declared.mode.Mode.TheVariants as mode
use Rattle.db_text.specs.declared.mode.Move.{Move}
use Rattle.db_text.specs.declared.node.Node.{Node}
use Rattle.db_text.specs.declared.notes.Notes.{Notes}
use Rattle.db_text.specs.declared.parts.Parts.{Parts}
use Rattle.db_text.specs.Text.{Placed, next_line, placed, line_behind}
use Rattle.db_text.specs.Tree.{too_deep}
use Rattle.db_text.specs.Machine.{Stack, notes, parts, State, state, at, no_notes, no_parts, start, decide, noted, parted, moved, step_from, fed, is_whole}
use Rattle.db_text.specs.Outcome.{Answer, after, outcome, after_part, built, text_outcome, text_built}
use Rattle.db_text.specs.Refusal.{IsSpelled, IsText, Viable, IsFaulty, IsRefused, too_long, faulty, too_deep_within}
use Rattle.db_text.proofs.ByteTests.{length_push}
use Rattle.db_text.proofs.Accepted.{known, accepted}
use Rattle.db_text.proofs.Finishes.{finish}
use Rattle.db_text.proofs.Followed.{followed}

placed-append : (xs ys : List ℕ) (line : ℕ) → placed line (xs ++ ys) ≡ placed line xs ++ placed (line_behind line xs) ys
placed-append [] ys line = refl
placed-append (x ∷ xs) ys line = ap (λ ps. record { line = line; byte = x } ∷ ps) (placed-append xs ys (next_line line x))

line_behind-append : (xs ys : List ℕ) (line : ℕ) → line_behind line (xs ++ ys) ≡ line_behind (line_behind line xs) ys
line_behind-append [] ys line = refl
line_behind-append (x ∷ xs) ys line = line_behind-append xs ys (next_line line x)

fed-append : (s : Option State) (xs ys : List Placed) → fed s (xs ++ ys) ≡ fed (fed s xs) ys
fed-append s [] ys = refl
fed-append s (x ∷ xs) ys = fed-append (step_from s x) xs ys

fed_none : (ts : List Placed) → fed None ts ≡ None
fed_none [] = refl
fed_none (t ∷ ts) = fed_none ts

-- what the machine makes of these bytes
abbrev taken : List ℕ → Option State
taken bytes = fed (Some start) (placed 1 bytes)

taken-append : (xs ys : List ℕ) → taken (xs ++ ys) ≡ fed (taken xs) (placed (line_behind 1 xs) ys)
taken-append xs ys = ap (fed (Some start)) (placed-append xs ys 1) ∙ fed-append (Some start) (placed 1 xs) (placed (line_behind 1 xs) ys)

-- a front that the machine has taken goes on to a text
alive : (front : List ℕ) (s : State) → taken front ≡ Some s → Viable front
alive front s h =
    let k = known (placed 1 front) s h in
    let f = finish (placed 1 front) s.mode s.notes s.parts (line_behind 1 front) k in
    let a = accepted (placed 1 (front ++ f.0)) f.1 f.2 (taken-append front f.0 ∙ ap (λ x. fed x (placed (line_behind 1 front) f.0)) h ∙ f.3) in
    (f.0, a.0, a.2)

-- one that it has refused doesn't
refused : (front : List ℕ) → taken front ≡ None → Viable front → ⊥
refused front h v =
    let p : taken (front ++ v.0) ≡ _ = followed v.2 in
    let r : taken (front ++ v.0) ≡ None = taken-append front v.0 ∙ ap (λ x. fed x (placed (line_behind 1 front) v.0)) h ∙ fed_none (placed (line_behind 1 front) v.0) in
    cc

refused_on : (front more : List ℕ) → taken front ≡ None → taken (front ++ more) ≡ None
refused_on front more h = taken-append front more ∙ ap (λ x. fed x (placed (line_behind 1 front) more)) h ∙ fed_none (placed (line_behind 1 front) more)

-- what an answer says of a text
abbrev pub Tells : List ℕ → Answer → Type 0
Tells bytes (Ok d) = (n : Node) × IsSpelled bytes n × (too_deep n 1 ≡ d)
Tells bytes (Err f) = IsFaulty bytes f.0 f.1

abbrev notes_of : Option State → Notes
notes_of None = no_notes
notes_of (Some s) = s.notes

abbrev mode_of : Option State → Mode
mode_of None = mode.Start
mode_of (Some s) = s.mode

-- ---- the outcome is right

module _ (bytes : List ℕ) where
  -- the text ends here
  tells_end : (m : Mode) (n : Notes) (q : Parts) → taken bytes ≡ at m n q → (t : Bool) → is_whole m n ≡ t → Tells bytes (if t then Ok n.deep else Err (line_behind 1 bytes, Codes.code cause.UnexpectedEnd))
  tells_end m n q h true w = whole m n.names n.seen n.deep w h
    where
      whole : (m : Mode) (names : Stack) (seen : Bool) (deep : Option ℕ) → is_whole m (notes names seen deep) ≡ true → taken bytes ≡ at m (notes names seen deep) q → Tells bytes (Ok deep)
      whole mode.Between [] true deep w h =
          let a = accepted (placed 1 bytes) deep q h in
          (a.0, a.2, ap (λ s. (notes_of s).deep) (sym (followed a.2) ∙ h))
      whole mode.Between [] false deep w h = cc
      whole mode.Between (x ∷ k) seen deep w h = cc
      whole _ names seen deep w h = cc
  tells_end m n q h false w = record {
    outside = λ x d.
        let p : at m n q ≡ at mode.Between (notes [] true (too_deep x 1)) (parts [] [] [] (Some x)) = sym h ∙ followed d in
        let e : is_whole m n ≡ true = whole_is m n q (too_deep x 1) _ p in
        cc;
    at = length bytes;
    within = omega arith;
    viable = subst Viable (sym (take-length bytes)) (alive bytes (state m n q) h);
    longest = λ other l v. l;
    line_is = ap (line_behind 1) (sym (take-length bytes));
    code_is = ap (λ t. Codes.code (if t then cause.UnexpectedEnd else cause.UnexpectedByte)) (sym (eq-eqb (length bytes) (length bytes) refl));
  }
    where
      whole_is : (m : Mode) (n : Notes) (q : Parts) (deep : Option ℕ) (q' : Parts) → at m n q ≡ at mode.Between (notes [] true deep) q' → is_whole m n ≡ true
      whole_is m n q deep q' h = ap (λ s. is_whole (mode_of s) (notes_of s)) h

  -- a byte is at fault
  tells_fault : (front : List ℕ) (b : ℕ) (bs : List ℕ) (m : Mode) (n : Notes) (q : Parts) → bytes ≡ front ++ b ∷ bs → taken front ≡ at m n q → taken (front ++ b ∷ []) ≡ None → IsFaulty bytes (line_behind 1 front) (Codes.code cause.UnexpectedByte)
  tells_fault front b bs m n q e h r =
      let all : bytes ≡ (front ++ b ∷ []) ++ bs = e ∙ sym (append_assoc front (b ∷ []) bs) in
      let none : taken bytes ≡ None = ap taken all ∙ refused_on (front ++ b ∷ []) bs r in
      let len : length bytes ≡ length (front ++ b ∷ bs) = ap length e in
      let two : length (front ++ b ∷ bs) ≡ _ = length-append front (b ∷ bs) in
      let cut : take (length front) bytes ≡ front = ap (take (length front)) e ∙ take-append_seam front (b ∷ bs) in
      let more : length front ≢ length bytes = omega (arith, len, two) in
      record {
        outside = λ x d. let p = followed d in cc;
        at = length front;
        within = omega (arith, len, two);
        viable = subst Viable (sym cut) (alive front (state m n q) h);
        longest = λ other l v. shorter front b bs other all r v (cases_lt (length front) other);
        line_is = ap (line_behind 1) (sym cut);
        code_is = ap (λ t. Codes.code (if t then cause.UnexpectedEnd else cause.UnexpectedByte)) (sym (ne_eqb (length front) (length bytes) more));
      }
    where
      shorter : (front : List ℕ) (b : ℕ) (bs : List ℕ) (other : ℕ) → bytes ≡ (front ++ b ∷ []) ++ bs → taken (front ++ b ∷ []) ≡ None → Viable (take other bytes) → (length front < other) ⊎ (other ≤ length front) → other ≤ length front
      shorter front b bs other e r v (inr p) = p
      shorter front b bs other e r v (inl p) =
          let more = other - suc (length front) in
          let l : length (front ++ b ∷ []) ≡ suc (length front) = length_push front b in
          let o : other ≡ length (front ++ b ∷ []) + more = omega (arith, l, p) in
          let cut : take other bytes ≡ (front ++ b ∷ []) ++ take more bs = ap (λ i. take i bytes) o ∙ ap (take (length (front ++ b ∷ []) + more)) e ∙ take-append-add (front ++ b ∷ []) bs more in
          absurd (refused (take other bytes) (ap taken cut ∙ refused_on (front ++ b ∷ []) (take more bs) r) v)

  tells : (bs front : List ℕ) (m : Mode) (n : Notes) (q : Parts) → bytes ≡ front ++ bs → taken front ≡ at m n q → Tells bytes (outcome (line_behind 1 front) m n bs)
  unfolding outcome
  tells [] front m n q e h =
      let all : bytes ≡ front = e ∙ append-nil front in
      subst (λ l. Tells bytes (if is_whole m n then Ok n.deep else Err (l, Codes.code cause.UnexpectedEnd))) (ap (line_behind 1) all) (tells_end m n q (ap taken all ∙ h) (is_whole m n) refl)
  tells (b ∷ bs) front m n q e h =
      next (decide m n (line_behind 1 front) b) refl (λ v d.
      subst (λ l. Tells bytes (outcome l v.mode (noted v.act n) bs)) (line_behind-append front (b ∷ []) 1)
      (tells bs (front ++ b ∷ []) v.mode (noted v.act n) (parted v.act n q) (e ∙ sym (append_assoc front (b ∷ []) bs))
      (taken-append front (b ∷ []) ∙ ap (λ x. fed x (placed (line_behind 1 front) (b ∷ []))) h ∙ ap (moved n q) d)))
    where
      next : (v : Option Move) → decide m n (line_behind 1 front) b ≡ v
          → ((w : Move) → decide m n (line_behind 1 front) b ≡ Some w → Tells bytes (outcome (next_line (line_behind 1 front) b) w.mode (noted w.act n) bs))
          → Tells bytes (after (line_behind 1 front) n (λ m' n'. outcome (next_line (line_behind 1 front) b) m' n' bs) v)
      next None d f = tells_fault front b bs m n q e h (taken-append front (b ∷ []) ∙ ap (λ x. fed x (placed (line_behind 1 front) (b ∷ []))) h ∙ ap (moved n q) d)
      next (Some v) d f = f v d

  pub told : Tells bytes (text_outcome bytes)
  told = tells bytes [] mode.Start no_notes no_parts refl refl

-- ---- the element that the bytes make

built_is : (bs : List ℕ) (line : ℕ) (m : Mode) (n : Notes) (q : Parts) (s : State) → fed (at m n q) (placed line bs) ≡ Some s → built line m n q bs ≡ s.parts.top
unfolding built
built_is [] line m n q s h = ap top_in h
  where
    top_in : Option State → Option Node
    top_in None = None
    top_in (Some s) = s.parts.top
built_is (b ∷ bs) line m n q s h = next (decide m n line b) h (λ v g. built_is bs (next_line line b) v.mode (noted v.act n) (parted v.act n q) s g)
  where
    next : (v : Option Move) → fed (moved n q v) (placed (next_line line b) bs) ≡ Some s
        → ((w : Move) → fed (moved n q (Some w)) (placed (next_line line b) bs) ≡ Some s → built (next_line line b) w.mode (noted w.act n) (parted w.act n q) bs ≡ s.parts.top)
        → after_part n q (λ m' n' q'. built (next_line line b) m' n' q' bs) v ≡ s.parts.top
    next None h f = let e = fed_none (placed (next_line line b) bs) in cc
    next (Some v) h f = f v h

pub built_whole : (bytes : List ℕ) (n : Node) → IsSpelled bytes n → text_built bytes ≡ Some n
built_whole bytes n d = built_is bytes 1 mode.Start no_notes no_parts (state mode.Between (notes [] true (too_deep n 1)) (parts [] [] [] (Some n))) (followed d)

-- ---- one answer

pub one_element : (bytes : List ℕ) (n m : Node) → IsSpelled bytes n → IsSpelled bytes m → n ≡ m
one_element bytes n m d e =
    let p = built_whole bytes n d in
    let q = built_whole bytes m e in
    cc

pub text_not_refused : (bytes : List ℕ) (n : Node) (line code : ℕ) → IsText bytes n → IsRefused bytes line code → ⊥
text_not_refused bytes n line code t (too_long long l c) = let w = t.within in omega (arith, w, long)
text_not_refused bytes n line code t (faulty w f) = f.outside n t.spelled
text_not_refused bytes n line code t (too_deep_within w f c) =
    let e = one_element bytes n f.element t.spelled f.spelled in
    let p : too_deep n 1 ≡ Some line = ap (λ x. too_deep x 1) e ∙ f.deep in
    let q = t.deep in
    cc

same_fault : (bytes : List ℕ) (line code line' code' : ℕ) → IsFaulty bytes line code → IsFaulty bytes line' code' → (line ≡ line') × (code ≡ code')
same_fault bytes line code line' code' f g =
    let a = g.longest f.at f.within f.viable in
    let b = f.longest g.at g.within g.viable in
    let e : f.at ≡ g.at = omega (arith, a, b) in
    (f.line_is ∙ ap (λ i. line_behind 1 (take i bytes)) e ∙ sym g.line_is, f.code_is ∙ ap (λ i. Codes.code (if i == length bytes then cause.UnexpectedEnd else cause.UnexpectedByte)) e ∙ sym g.code_is)

pub one_refusal : (bytes : List ℕ) (line code line' code' : ℕ) → IsRefused bytes line code → IsRefused bytes line' code' → (line ≡ line') × (code ≡ code')
one_refusal bytes line code line' code' (too_long long l c) (too_long long' l' c') = (l ∙ sym l', c ∙ sym c')
one_refusal bytes line code line' code' (too_long long l c) (faulty w f) = absurd (omega (arith, long, w))
one_refusal bytes line code line' code' (too_long long l c) (too_deep_within w f c') = absurd (omega (arith, long, w))
one_refusal bytes line code line' code' (faulty w f) (too_long long l c) = absurd (omega (arith, long, w))
one_refusal bytes line code line' code' (faulty w f) (faulty w' f') = same_fault bytes line code line' code' f f'
one_refusal bytes line code line' code' (faulty w f) (too_deep_within w' f' c) = absurd (f.outside f'.element f'.spelled)
one_refusal bytes line code line' code' (too_deep_within w f c) (too_long long l c') = absurd (omega (arith, long, w))
one_refusal bytes line code line' code' (too_deep_within w f c) (faulty w' f') = absurd (f'.outside f.element f.spelled)
one_refusal bytes line code line' code' (too_deep_within w f c) (too_deep_within w' f' c') =
    let e = one_element bytes f.element f'.element f.spelled f'.spelled in
    let p : too_deep f'.element 1 ≡ Some line = ap (λ x. too_deep x 1) (sym e) ∙ f.deep in
    let q = f'.deep in
    (cc, c ∙ sym c')

answer_within : (bytes : List ℕ) → length bytes ≤ 1048576 → (a : Answer) → Tells bytes a → ((n : Node) × IsText bytes n) ⊎ ((line : ℕ) × (code : ℕ) × IsRefused bytes line code)
answer_within bytes w (Ok None) t = inl (t.0, record { within = w; spelled = t.1; deep = t.2 })
answer_within bytes w (Ok (Some line)) t = inr (line, Codes.code cause.TextTooDeep, too_deep_within w (record { element = t.0; spelled = t.1; deep = t.2 }) refl)
answer_within bytes w (Err f) t = inr (f.0, f.1, faulty w t)

pub has_answer : (bytes : List ℕ) → ((n : Node) × IsText bytes n) ⊎ ((line : ℕ) × (code : ℕ) × IsRefused bytes line code)
has_answer bytes = by_length (cases_lt 1048576 (length bytes))
  where
    by_length : (1048576 < length bytes) ⊎ (length bytes ≤ 1048576) → ((n : Node) × IsText bytes n) ⊎ ((line : ℕ) × (code : ℕ) × IsRefused bytes line code)
    by_length (inl l) = inr (1, Codes.code cause.TextTooLong, too_long l refl refl)
    by_length (inr w) = answer_within bytes w (text_outcome bytes) (told bytes)
