-- What a finished window hands out.
use Rattle.std.specs.Prelude.{◌≡◌, ℕ, zero, suc, List, [], ◌∷◌, length, slice_get, Some}
use Rattle.std.proofs.Common.{refl, ap, ◌∙◌, arith}
use Rattle.std.proofs.lemmas.Option.{slice_get_within}
use Rattle.spec_core.specs.declared.slot.Ready.{Ready}
use Rattle.spec_core.specs.declared.slot.Slot.{Slot}
use Rattle.spec_core.specs.declared.slot.Slot.TheVariants.{Free, Out, In, Settled}
use Rattle.spec_core.specs.Events.{readies_of}
use Rattle.spec_core.specs.Machine.{Machine, Fits, IsSound, taken_in}
use Rattle.spec_core.specs.Whole.{IsWhole}

-- each slot is settled
abbrev AreSettled : List Slot → Type 0
AreSettled ss = (i : ℕ) (s : Slot) → slice_get ss i ≡ Some s → (y : Ready) × (s ≡ Settled y)

-- one more before them
place_after : (ss : List Slot) (y : Ready) → ((i : ℕ) (x : Ready) → slice_get (readies_of ss) i ≡ Some x → slice_get ss i ≡ Some (Settled x)) → (i : ℕ) (x : Ready) → slice_get (y ∷ readies_of ss) i ≡ Some x → slice_get (Settled y ∷ ss) i ≡ Some (Settled x)
place_after ss y h zero x e = let k : y ≡ x = cc in ap (λ (z : Ready). Some (Settled z)) k
place_after ss y h (suc i) x e = h i x e

-- then each has its place among what is handed out
same_places : (ss : List Slot) → AreSettled ss → (length (readies_of ss) ≡ length ss) × ((i : ℕ) (y : Ready) → slice_get (readies_of ss) i ≡ Some y → slice_get ss i ≡ Some (Settled y))
same_places [] h = (refl, λ i y e. absurd (cc))
same_places (Free ∷ ss) h = absurd (let k = (h 0 Free refl).1 in (cc))
same_places (Out t ∷ ss) h = absurd (let k = (h 0 (Out t) refl).1 in (cc))
same_places (In s ∷ ss) h = absurd (let k = (h 0 (In s) refl).1 in (cc))
same_places (Settled y ∷ ss) h =
    let r = same_places ss (λ i s e. h (suc i) s e) in (ap suc r.0, place_after ss y r.1)

module _ (m : Machine) (w : IsSound m) (finished : m.done ≡ length m.run.packets) where
  all_settled : (i : ℕ) (s : Slot) → length m.slots ≡ length m.run.packets → slice_get m.slots i ≡ Some s → Fits m.run m.done m.given i s → (y : Ready) × (s ≡ Settled y)
  all_settled i Free l e f = absurd (omega (arith, f, l, finished, w.order.1, slice_get_within m.slots i Free e))
  all_settled i (Out t) l e f = absurd (omega (arith, f.unsettled, l, finished, slice_get_within m.slots i (Out t) e))
  all_settled i (In s) l e f = absurd (omega (arith, f.0.unsettled, l, finished, slice_get_within m.slots i (In s) e))
  all_settled i (Settled y) l e f = (y, refl)

  pub whole : length m.slots ≡ length m.run.packets → IsWhole m.run (readies_of m.slots)
  whole l =
      let r = same_places m.slots (λ i s e. all_settled i s l e (w.fit i s e)) in
      record {
        all = r.0 ∙ l;
        each = λ i y e. (w.fit i (Settled y) (r.1 i y e)).2;
        v_rises = λ i j x y t u lt e f a b. w.taken.v_rises i j t u lt (ap taken_in (r.1 i x e) ∙ a) (ap taken_in (r.1 j y f) ∙ b);
        c_rises = λ i j x y t u lt e f a b. w.taken.c_rises i j t u lt (ap taken_in (r.1 i x e) ∙ a) (ap taken_in (r.1 j y f) ∙ b);
      }
