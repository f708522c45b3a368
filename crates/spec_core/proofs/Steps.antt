-- Each event keeps what the machine keeps.
use Rattle.std.specs.Prelude.{◌≡◌, ℕ, ◌+◌, ◌-◌, ◌<◌, ◌≤◌, ◌⊎◌, Bool, true, false, if◌then◌else◌, nat_lt, List, length, slice_get, slice_set, Option, Some, None}
use Rattle.std.proofs.Common.{refl, sym, ap, subst, ◌∙◌, ◌≢◌, arith, inl, inr}
use Rattle.db_model.specs.declared.database.Database.{Database}
use Rattle.db_model.specs.declared.limits.TheConstants.{STAMP_END}
use Rattle.db_model.specs.declared.packet.Packet.{Packet}
use Rattle.db_model.specs.Session.{Session}
use Rattle.engine.specs.declared.receipt.Taken.{Taken}
use Rattle.engine.specs.declared.texts.Wanted.{Wanted}
use Rattle.spec_core.specs.declared.slot.Slot.{Slot}
use Rattle.spec_core.specs.declared.slot.Slot.TheVariants.{Free, Out, In, Settled}
use Rattle.spec_core.specs.declared.slot.Speculation.{Speculation}
use Rattle.spec_core.specs.declared.slot.Ready.{Ready}
use Rattle.spec_core.specs.Machine.{Machine, IsPending, Fits, IsWithin, InOrder, IsSound, IsSettled, taken_in, taken_at}
use Rattle.spec_core.specs.Events.{CanBegin, opened, begun, drained, published, published_if_far, taken_of, took, delivered, settled, stopped, untook, CanTake, CanDeliver, CanPutBack}
use Rattle.spec_core.proofs.Lists.{get_set, set_length, slice_get_there, same_taken, set_taken, set_slots, wide, free_at, free_length, free_taken}

-- what never falls goes on so, where v and c of the packets stay
pub later_order : (m n : Machine) → n.run.first ≡ m.run.first → m.shown ≤ n.shown → m.done ≤ n.done → ((i : ℕ) → taken_at n i ≡ taken_at m i) → InOrder m → InOrder n
later_order m n f s d same b = record {
  within = λ i t h. (let w = b.within i t (sym (same i) ∙ h) in record { shown = omega (arith, w.shown, s, f); done = omega (arith, w.done, d, f) });
  v_rises = λ i j t u lt h k. b.v_rises i j t u lt (sym (same i) ∙ h) (sym (same j) ∙ k);
  c_rises = λ i j t u lt h k. b.c_rises i j t u lt (sym (same i) ∙ h) (sym (same j) ∙ k);
}

-- ---- windows

pub opened_sound : (db : Database) (wanted : Wanted) (s : Session) (first : ℕ) → IsSound (opened db wanted s first)
opened_sound db wanted s first = record {
  run = record { few = omega arith; numbered = λ i p h. absurd (cc); timely = λ i p h. absurd (cc) };
  slots = inl refl;
  order = (omega arith, omega arith, omega arith);
  fit = λ i s h. absurd (cc);
  taken = record { within = λ i t h. absurd (cc); v_rises = λ i j t u lt h k. absurd (cc); c_rises = λ i j t u lt h k. absurd (cc) };
}

pub begun_sound : (m : Machine) (qs : List Packet) → CanBegin m qs → IsSound (begun m qs)
begun_sound m qs can = record {
  run = record { few = can.few; numbered = can.numbered; timely = can.timely };
  slots = inl (free_length (length qs));
  order = (omega arith, omega arith, omega arith);
  fit = λ i s h. subst (Fits (begun m qs).run 0 0 i) (sym (free_at (length qs) i s h)) (omega arith);
  taken = record { within = λ i t h. absurd (free_taken (length qs) i t h); v_rises = λ i j t u lt h k. absurd (free_taken (length qs) i t h); c_rises = λ i j t u lt h k. absurd (free_taken (length qs) i t h) };
}

module _ (m : Machine) (w : IsSound m) where
  -- the packet at a place, and its moment
  pub packet_at : (i : ℕ) → i < length m.run.packets → (p : Packet) × (slice_get m.run.packets i ≡ Some p) × (p.stamp < STAMP_END)
  packet_at i h = let x = slice_get_there m.run.packets i h in (x.0, x.1, w.run.timely i x.0 x.1)

  pub drained_sound : m.done ≡ length m.run.packets → IsSound (drained m)
  drained_sound e = record {
    run = w.run;
    slots = inr (refl, e);
    order = w.order;
    fit = λ i s h. absurd (cc);
    taken = record { within = λ i t h. absurd (cc); v_rises = λ i j t u lt h k. absurd (cc); c_rises = λ i j t u lt h k. absurd (cc) };
  }

  pub publish_sound : IsSound (published m)
  publish_sound = record {
    run = w.run;
    slots = w.slots;
    order = (omega arith, w.order.1, w.order.2);
    fit = w.fit;
    taken = later_order m (published m) refl w.order.0 (omega arith) (λ i. refl) w.taken;
  }

  pub published_sound : IsSound (published_if_far m)
  published_sound = by (nat_lt (m.done - m.shown) 64)
    where
      by : (b : Bool) → IsSound (record m { shown = if b then m.shown else m.done })
      by true = w
      by false = publish_sound

  pub stop_sound : IsSound (stopped m)
  stop_sound = record {
    run = w.run;
    slots = w.slots;
    order = w.order;
    fit = w.fit;
    taken = later_order m (stopped m) refl (omega arith) (omega arith) (λ i. refl) w.taken;
  }

  -- ---- taking

  taken_below : (i : ℕ) (o : Option Slot) (t : Taken) → slice_get m.slots i ≡ o → taken_in o ≡ Some t → i < m.given
  taken_below i None t at h = absurd (cc)
  taken_below i (Some Free) t at h = absurd (cc)
  taken_below i (Some (Out u)) t at h = (w.fit i (Out u) at).below
  taken_below i (Some (In s)) t at h = (w.fit i (In s) at).0.below
  taken_below i (Some (Settled y)) t at h = (w.fit i (Settled y) at).0

  take_keeps : (i : ℕ) (s : Slot) → i ≢ m.given → Fits m.run m.done m.given i s → Fits m.run m.done (m.given + 1) i s
  take_keeps i Free o f = grind arith
  take_keeps i (Out t) o f = record { below = omega (arith, f.below); unsettled = f.unsettled; taken = f.taken }
  take_keeps i (In s) o f = (record { below = omega (arith, f.0.below); unsettled = f.0.unsettled; taken = f.0.taken }, f.1)
  take_keeps i (Settled y) o f = (omega (arith, f.0), f.1, f.2)

  pub take_sound : CanTake m → IsSound (took m)
  take_sound can = record {
    run = w.run;
    slots = set_slots m.slots m.given (Out (taken_of m)) (length m.run.packets) m.done w.slots;
    order = (w.order.0, omega (arith, w.order.1), omega (arith, can.room));
    fit = λ i s h. fit i s (get_set m.slots m.given i (Out (taken_of m)) s h);
    taken = record {
      within = λ i t h. within i t (set_taken m.slots m.given i (Out (taken_of m)) t h);
      v_rises = λ i j t u lt h k. v_rises i j t u lt (set_taken m.slots m.given i (Out (taken_of m)) t h) (set_taken m.slots m.given j (Out (taken_of m)) u k);
      c_rises = λ i j t u lt h k. c_rises i j t u lt (set_taken m.slots m.given i (Out (taken_of m)) t h) (set_taken m.slots m.given j (Out (taken_of m)) u k);
    };
  }
    where
      now : IsPending m.run m.done (m.given + 1) m.given (taken_of m)
      now = record {
        below = omega arith;
        unsettled = w.order.1;
        taken = record { from_base = omega arith; ordered = omega (arith, w.order.0); earlier = omega (arith, w.order.1); near = omega (arith, can.near); recent = omega (arith, can.room, w.run.few) };
      }

      fit : (i : ℕ) (s : Slot) → ((i ≡ m.given) × (s ≡ Out (taken_of m))) ⊎ ((i ≢ m.given) × (slice_get m.slots i ≡ Some s)) → Fits m.run m.done (m.given + 1) i s
      fit i s (inl e) = subst (Fits m.run m.done (m.given + 1) i) (sym e.1) (subst (λ j. IsPending m.run m.done (m.given + 1) j (taken_of m)) (sym e.0) now)
      fit i s (inr e) = take_keeps i s e.0 (w.fit i s e.1)

      Is : ℕ → Taken → Type 0
      Is i t = ((i ≡ m.given) × (Some (taken_of m) ≡ Some t)) ⊎ ((i ≢ m.given) × (taken_at m i ≡ Some t))

      own : (t : Taken) → Some (taken_of m) ≡ Some t → taken_of m ≡ t
      own t e = cc

      within : (i : ℕ) (t : Taken) → Is i t → IsWithin (took m) t
      within i t (inl e) = subst (IsWithin (took m)) (own t e.1) (record { shown = omega arith; done = omega arith })
      within i t (inr e) = (let k = w.taken.within i t e.1 in record { shown = k.shown; done = k.done })

      v_rises : (i j : ℕ) (t u : Taken) → i < j → Is i t → Is j u → t.v ≤ u.v
      v_rises i j t u lt (inl e) (inl f) = absurd (omega (arith, lt, e.0, f.0))
      v_rises i j t u lt (inl e) (inr f) = absurd (omega (arith, lt, e.0, taken_below j (slice_get m.slots j) u refl f.1))
      v_rises i j t u lt (inr e) (inl f) = subst (λ (x : Taken). t.v ≤ x.v) (own u f.1) (w.taken.within i t e.1).shown
      v_rises i j t u lt (inr e) (inr f) = w.taken.v_rises i j t u lt e.1 f.1

      c_rises : (i j : ℕ) (t u : Taken) → i < j → Is i t → Is j u → t.c ≤ u.c
      c_rises i j t u lt (inl e) (inl f) = absurd (omega (arith, lt, e.0, f.0))
      c_rises i j t u lt (inl e) (inr f) = absurd (omega (arith, lt, e.0, taken_below j (slice_get m.slots j) u refl f.1))
      c_rises i j t u lt (inr e) (inl f) = subst (λ (x : Taken). t.c ≤ x.c) (own u f.1) (w.taken.within i t e.1).done
      c_rises i j t u lt (inr e) (inr f) = w.taken.c_rises i j t u lt e.1 f.1

  -- ---- putting back

  untook_keeps : (i : ℕ) (s : Slot) → 0 < m.given → i ≢ (m.given - 1) → Fits m.run m.done m.given i s → Fits m.run m.done (m.given - 1) i s
  untook_keeps i Free pos o f = omega (arith, f)
  untook_keeps i (Out t) pos o f = record { below = omega (arith, f.below, o); unsettled = f.unsettled; taken = f.taken }
  untook_keeps i (In s) pos o f = (record { below = omega (arith, f.0.below, o); unsettled = f.0.unsettled; taken = f.0.taken }, f.1)
  untook_keeps i (Settled y) pos o f = (omega (arith, f.0, o), f.1, f.2)

  pub untook_sound : (number : ℕ) (t : Taken) → CanPutBack m number t → IsSound (untook m)
  untook_sound number t can = record {
    run = w.run;
    slots = set_slots m.slots (m.given - 1) Free (length m.run.packets) m.done w.slots;
    order = (w.order.0, le, omega (arith, w.order.2));
    fit = λ i s h. fit i s (get_set m.slots (m.given - 1) i Free s h);
    taken = record {
      within = λ i t h. (let k = w.taken.within i t (old i t (set_taken m.slots (m.given - 1) i Free t h)) in record { shown = k.shown; done = k.done });
      v_rises = λ i j t u lt h k. w.taken.v_rises i j t u lt (old i t (set_taken m.slots (m.given - 1) i Free t h)) (old j u (set_taken m.slots (m.given - 1) j Free u k));
      c_rises = λ i j t u lt h k. w.taken.c_rises i j t u lt (old i t (set_taken m.slots (m.given - 1) i Free t h)) (old j u (set_taken m.slots (m.given - 1) j Free u k));
    };
  }
    where
      le : m.done ≤ m.given - 1
      le = let f = w.fit (number - m.run.first) (Out t) can.out in omega (arith, f.unsettled, can.newest)

      fit : (i : ℕ) (s : Slot) → ((i ≡ m.given - 1) × (s ≡ Free)) ⊎ ((i ≢ (m.given - 1)) × (slice_get m.slots i ≡ Some s)) → Fits m.run m.done (m.given - 1) i s
      fit i s (inl e) = subst (Fits m.run m.done (m.given - 1) i) (sym e.1) (omega (arith, e.0))
      fit i s (inr e) = untook_keeps i s (omega (arith, can.newest)) e.0 (w.fit i s e.1)

      old : (i : ℕ) (t : Taken) → ((i ≡ m.given - 1) × (taken_in (Some Free) ≡ Some t)) ⊎ ((i ≢ (m.given - 1)) × (taken_at m i ≡ Some t)) → taken_at m i ≡ Some t
      old i t (inl e) = absurd (let k = e.1 in (cc))
      old i t (inr e) = e.1

  pub untook_at : (number : ℕ) (t : Taken) → CanPutBack m number t → IsSound (record m { given = number - m.run.first; slots = slice_set m.slots (number - m.run.first) Free })
  untook_at number t can = subst (λ (k : ℕ). IsSound (record m { given = k; slots = slice_set m.slots k Free })) (omega (arith, can.newest)) (untook_sound number t can)

  -- ---- delivering

  pub deliver_sound : (x : Speculation) → CanDeliver m x → IsSound (delivered m x)
  deliver_sound x can = record {
    run = w.run;
    slots = set_slots m.slots at (In x) (length m.run.packets) m.done w.slots;
    order = w.order;
    fit = λ i s h. fit i s (get_set m.slots at i (In x) s h);
    taken = later_order m (delivered m x) refl (omega arith) (omega arith) (λ i. same_taken m.slots at i (In x) (ap taken_in (sym can.out))) w.taken;
  }
    where
      at : ℕ
      at = x.number - m.run.first

      fit : (i : ℕ) (s : Slot) → ((i ≡ at) × (s ≡ In x)) ⊎ ((i ≢ at) × (slice_get m.slots i ≡ Some s)) → Fits m.run m.done m.given i s
      fit i s (inl e) = subst (Fits m.run m.done m.given i) (sym e.1) (subst (λ j. Fits m.run m.done m.given j (In x)) (sym e.0) (w.fit at (Out x.taken) can.out, can.made))
      fit i s (inr e) = w.fit i s e.1

  -- ---- settling

  settle_keeps : (i g : ℕ) (s : Slot) → g ≡ (if nat_lt m.done m.given then m.given else m.done + 1) → i ≢ m.done → Fits m.run m.done m.given i s → Fits m.run (m.done + 1) g i s
  settle_keeps i g Free e n f = grind (arith, e, f, n, w.order.1)
  settle_keeps i g (Out t) e n f = record { below = grind (arith, f.below, e); unsettled = omega (arith, f.unsettled, n); taken = f.taken }
  settle_keeps i g (In s) e n f = (record { below = grind (arith, f.0.below, e); unsettled = omega (arith, f.0.unsettled, n); taken = f.0.taken }, f.1)
  settle_keeps i g (Settled x) e n f = (grind (arith, f.0, e), omega (arith, f.1), f.2)

  pub settle_sound : (y : Ready) → m.done < length m.run.packets → IsSettled m.run m.done y → y.receipt.taken ≡ taken_at m m.done → IsSound (settled m y)
  settle_sound y room is same = record {
    run = w.run;
    slots = inl (set_length' ∙ wide (length m.slots) (length m.run.packets) m.done w.slots room);
    order = (omega (arith, w.order.0), grind (arith, w.order.1), grind (arith, w.order.2, room));
    fit = λ i s h. fit i s (get_set m.slots m.done i (Settled y) s h);
    taken = later_order m (settled m y) refl (omega arith) (omega arith) (λ i. same_taken m.slots m.done i (Settled y) same) w.taken;
  }
    where
      g : ℕ
      g = if nat_lt m.done m.given then m.given else m.done + 1

      set_length' : length (slice_set m.slots m.done (Settled y)) ≡ length m.slots
      set_length' = set_length m.slots m.done (Settled y)

      now : Fits m.run (m.done + 1) g m.done (Settled y)
      now = (grind arith, omega arith, is)

      fit : (i : ℕ) (s : Slot) → ((i ≡ m.done) × (s ≡ Settled y)) ⊎ ((i ≢ m.done) × (slice_get m.slots i ≡ Some s)) → Fits m.run (m.done + 1) g i s
      fit i s (inl e) = subst (Fits m.run (m.done + 1) g i) (sym e.1) (subst (λ j. Fits m.run (m.done + 1) g j (Settled y)) (sym e.0) now)
      fit i s (inr e) = settle_keeps i g s refl e.0 (w.fit i s e.1)
