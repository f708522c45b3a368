-- A commit, and a direct decoding, over plain values.
use Rattle.std.specs.Prelude.{◌≡◌, ℕ, suc, ◌+◌, ◌<◌, false, if◌then◌else◌, nat_lt, List, length, slice_get, slice_set, Option, Some, None, Ok}
use Rattle.std.proofs.Common.{refl, sym, ap, subst, ◌∙◌, arith, get_or}
use Rattle.std.proofs.lemmas.Option.{slice_get_within, slice_get_read}
use Rattle.db_model.specs.declared.packet.Packet.{Packet}
use Rattle.db_model.specs.Decoding.{dec}
use Rattle.db_model.specs.Questions.{Log}
use Rattle.db_model.specs.Replay.{Difference, differs}
use Rattle.db_model.specs.Serial.{decoded, state}
use Rattle.db_model.specs.Session.{Session}
use Rattle.db_laws.proofs.LawsHold.{differs_nowhere}
use Rattle.spec_core.specs.declared.committed.Committed.{Committed}
use Rattle.engine.specs.declared.receipt.Outcome.{Outcome}
use Rattle.engine.specs.declared.receipt.Outcome.TheVariants as outcome
use Rattle.engine.specs.declared.receipt.Taken.{Taken}
use Rattle.engine.specs.declared.receipt.Why.{Why}
use Rattle.spec_core.specs.declared.slot.Ready.{Ready}
use Rattle.spec_core.specs.declared.slot.Slot.{Slot}
use Rattle.spec_core.specs.declared.slot.Slot.TheVariants.{Free, Out, In, Settled}
use Rattle.spec_core.specs.declared.slot.Speculation.{Speculation}
use Rattle.spec_core.specs.declared.texts.Texts.{Texts}
use Rattle.spec_core.specs.Commits.{Commits, Counts, committed_by, IsADifference}
use Rattle.spec_core.specs.Events.{settled, ready_of, outcome_of, difference, direct_of, or_else, settled_slot}
use Rattle.spec_core.specs.Machine.{Run, Machine, Fits, IsSound, WasTaken, OutcomeIs, from_view, texts_from, stamp_at, stamp_in, state_at, view_of, taken_in, taken_at}
use Rattle.spec_core.specs.Settling.{IsDecoded, spent}
use Rattle.spec_core.specs.Texts.{texts_in, texts_of}
use Rattle.spec_core.proofs.Steps.{settle_sound}

outcome_legal : (r : Run) (i : ℕ) (t : Taken) (d : Option Difference) → differs r.db (stamp_at r i) (from_view r i (view_of r t)).log (state_at r i) ≡ d → OutcomeIs r i (Some t) (outcome_of d)
outcome_legal r i t None e = (differs_nowhere r.db (stamp_at r i) (from_view r i (view_of r t)).log (state_at r i)).0 e
outcome_legal r i t (Some d) e = e

-- the state after the next packet
pub next_state : (r : Run) (k : ℕ) (p : Packet) (s : Session) → slice_get r.packets k ≡ Some p → s ≡ (dec r.db p (state_at r k)).session → s ≡ state_at r (k + 1)
next_state r k p s at e =
    e ∙ ap (λ (o : Option Packet). (decoded r.db o (state_at r k)).session) (sym at) ∙ ap (state r.db r.base r.packets) (let n : suc k ≡ k + 1 = omega arith in n)

-- the texts of the next packet
next_texts : (r : Run) (k : ℕ) (p : Packet) (s : Session) (t : Texts) → slice_get r.packets k ≡ Some p → s ≡ state_at r k → t ≡ texts_of r.wanted r.db p (dec r.db p s).result → t ≡ texts_from r k k
next_texts r k p s t at is e =
    e ∙ ap (λ (x : Session). texts_of r.wanted r.db p (dec r.db p x).result) is ∙ ap (λ (o : Option Packet). texts_in r.wanted r.db o (decoded r.db o (state_at r k)).result) (sym at)

module _ (m : Machine) (p : Packet) (s : Speculation) (w : IsSound m) (here : slice_get m.run.packets m.done ≡ Some p) (slot : slice_get m.slots m.done ≡ Some (In s)) where
  fits : Fits m.run m.done m.given m.done (In s)
  fits = w.fit m.done (In s) slot

  pub next_decoded : IsDecoded m.run.wanted m.run.db p s
  next_decoded =
      let view = state_at m.run (view_of m.run s.taken) in
      record {
        view = view;
        log = fits.1.log ∙ ap (λ (o : Option Packet). (decoded m.run.db o view).log) here;
        texts = fits.1.texts ∙ ap (λ (o : Option Packet). texts_in m.run.wanted m.run.db o (decoded m.run.db o view).result) here;
      }

  -- how it was settled
  pub outcome_here : (session : Session) (o : Outcome) → session ≡ state_at m.run m.done → o ≡ outcome_of (differs m.run.db p.stamp s.log session) → o ≡ outcome_of (difference m s)
  outcome_here session o at is = is ∙ ap (λ (x : Session). outcome_of (differs m.run.db p.stamp s.log x)) at ∙ ap (λ (q : Option Packet). outcome_of (differs m.run.db (stamp_in q) s.log (state_at m.run m.done))) (sym here)

  abbrev pub left_by : Slot → Machine
  left_by y = record m { done = m.done + 1; slots = slice_set m.slots m.done y }

  -- the settled slot is the one of the event
  pub is_ready : (session : Session) (t : Option Texts) (o : Outcome) → session ≡ state_at m.run m.done → or_else t s.texts ≡ texts_of m.run.wanted m.run.db p (dec m.run.db p session).result → o ≡ outcome_of (differs m.run.db p.stamp s.log session)
      → settled_slot (In s) t o ≡ Settled (ready_of m s)
  is_ready session t o at e is =
      let t' : or_else t s.texts ≡ texts_from m.run m.done m.done = next_texts m.run m.done p session (or_else t s.texts) here at e in
      let is' : o ≡ outcome_of (difference m s) = is ∙ ap (λ (x : Session). outcome_of (differs m.run.db p.stamp s.log x)) at ∙ ap (λ (q : Option Packet). outcome_of (differs m.run.db (stamp_in q) s.log (state_at m.run m.done))) (sym here) in
      let n' : s.number ≡ m.run.first + m.done = fits.1.number in
      rw (t', is', n') refl

  pub left_settled : (y : Slot) → y ≡ Settled (ready_of m s) → left_by y ≡ settled m (ready_of m s)
  left_settled y e = ap left_by e ∙ ap (λ (g : ℕ). record (left_by (Settled (ready_of m s))) { given = g }) (grind (arith, fits.0.below))

  pub settled_sound : IsSound (settled m (ready_of m s))
  settled_sound = settle_sound m w (ready_of m s) (slice_get_within m.run.packets m.done p here) (record {
    texts = refl;
    receipt = record {
      number = refl;
      taken = fits.0.taken;
      outcome = outcome_legal m.run m.done s.taken (difference m s) (ap (λ (l : Log). differs m.run.db (stamp_at m.run m.done) l (state_at m.run m.done)) (sym fits.1.log));
    };
  }) (ap taken_in (sym slot))

-- an element that was read, at the next place
pub read_at : {X : Type 0} (xs : List X) (m : Machine) (x y : X) → length xs ≡ length m.run.packets → m.done < length m.run.packets → x ≡ get_or xs m.done x → x ≡ y → slice_get xs m.done ≡ Some y
read_at xs m x y len more read e = slice_get_read xs (length xs) m.done x refl (omega (arith, len, more)) read ∙ ap Some e

-- what is answered
pub answers : (m : Machine) (s : Speculation) → m.halted ≡ false → slice_get m.slots m.done ≡ Some (In s) → (o : Outcome) → o ≡ outcome_of (difference m s)
    → (a : Committed) → a ≡ committed_by o → (n : Machine) → n ≡ settled m (ready_of m s) → Commits m (Ok a) n
answers m s going at o e a is n left = subst (λ (b : Committed). Commits m (Ok b) n) (sym (is ∙ ap committed_by e)) (by (difference m s) refl)
  where
    by : (d : Option Difference) → difference m s ≡ d → Commits m (Ok (committed_by (outcome_of d))) n
    by None e = (s, going, at, left, e)
    by (Some d) e = (s, going, at, left, subst IsADifference (sym e) tt)

pub counts : (o : Outcome) (a : Committed) (old new : ℕ) → a ≡ committed_by o → new ≡ old + spent o → Counts (Ok a) old new
counts outcome.Kept a old new e f = subst (λ (b : Committed). Counts (Ok b) old new) (sym e) (omega (arith, f))
counts (outcome.Again i x y) a old new e f = subst (λ (b : Committed). Counts (Ok b) old new) (sym e) f
counts (outcome.Direct why) a old new e f = subst (λ (b : Committed). Counts (Ok b) old new) (sym e) f

-- ---- a packet that is decoded directly

module _ (m : Machine) (p : Packet) (w : IsSound m) (here : slice_get m.run.packets m.done ≡ Some p) (x : Slot) (slot : slice_get m.slots m.done ≡ Some x) where
  was_taken : (y : Slot) → Fits m.run m.done m.given m.done y → WasTaken m.run m.done (taken_in (Some y))
  was_taken Free f = tt
  was_taken (Out t) f = f.taken
  was_taken (In s) f = f.0.taken
  was_taken (Settled y) f = absurd (omega (arith, f.1))

  outcome_direct : (t : Option Taken) (why : Why) → OutcomeIs m.run m.done t (outcome.Direct why)
  outcome_direct None why = tt
  outcome_direct (Some t) why = tt

  pub direct_sound : (why : Why) → IsSound (settled m (direct_of m why))
  direct_sound why = settle_sound m w (direct_of m why) (slice_get_within m.run.packets m.done p here) (record {
    texts = refl;
    receipt = record {
      number = refl;
      taken = subst (λ (o : Option Slot). WasTaken m.run m.done (taken_in o)) (sym slot) (was_taken x (w.fit m.done x slot));
      outcome = outcome_direct (taken_at m m.done) why;
    };
  }) refl

  pub is_direct : (session : Session) (texts : Texts) (t : Option Taken) (why : Why) → session ≡ state_at m.run m.done → texts ≡ texts_of m.run.wanted m.run.db p (dec m.run.db p session).result → t ≡ taken_in (Some x)
      → record { texts = texts; receipt = record { number = m.run.first + m.done; taken = t; outcome = outcome.Direct why } } ≡ direct_of m why
  is_direct session texts t why at e et =
      let e' : texts ≡ texts_from m.run m.done m.done = next_texts m.run m.done p session texts here at e in
      let et' : t ≡ taken_at m m.done = et ∙ ap taken_in (sym slot) in
      rw (e', et') refl

  abbrev pub left_direct : ℕ → Ready → Machine
  left_direct g y = record m { done = m.done + 1; given = g; slots = slice_set m.slots m.done (Settled y) }

  pub left_is : (g : ℕ) (y : Ready) (why : Why) → g ≡ (if nat_lt m.done m.given then m.given else m.done + 1) → y ≡ direct_of m why → left_direct g y ≡ settled m (direct_of m why)
  left_is g y why e f = ap (λ (k : ℕ). left_direct k y) e ∙ ap (left_direct (if nat_lt m.done m.given then m.given else m.done + 1)) f
