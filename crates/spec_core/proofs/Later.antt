-- What commits leave as it was.
use Rattle.std.specs.Prelude.{◌≡◌, ◌≢◌, ℕ, ◌<◌, ◌⊎◌, slice_get, Some, Result, Ok, Err}
use Rattle.std.proofs.Common.{refl, sym, subst, ◌∙◌, arith, inl, inr}
use Rattle.db_model.specs.declared.no_memory.NoMemory.{NoMemory}
use Rattle.spec_core.specs.declared.committed.Committed.{Committed}
use Rattle.spec_core.specs.declared.committed.Committed.TheVariants.{Kept, Again, NotYet, Finished}
use Rattle.engine.specs.declared.receipt.Taken.{Taken}
use Rattle.spec_core.specs.declared.slot.Slot.TheVariants.{Out, In, Settled}
use Rattle.spec_core.specs.declared.slot.Ready.{Ready}
use Rattle.spec_core.specs.declared.slot.Speculation.{Speculation}
use Rattle.spec_core.specs.Commits.{Commits}
use Rattle.spec_core.specs.Events.{settled, ready_of}
use Rattle.spec_core.specs.Later.{Later}
use Rattle.spec_core.specs.Laws.{CommitsLater}
use Rattle.spec_core.specs.Machine.{Machine, IsSound}
use Rattle.spec_core.proofs.Lists.{get_set, set_get_other}

later_refl : (m : Machine) → Later m m
later_refl m = record { run = refl; shown = refl; done = omega arith; given = refl; out = λ i t h. h; back = λ i t h. h }

later_then : (m n k : Machine) → Later m n → Later n k → Later m k
later_then m n k a b = record {
  run = b.run ∙ a.run;
  shown = b.shown ∙ a.shown;
  done = omega (arith, a.done, b.done);
  given = b.given ∙ a.given;
  out = λ i t h. b.out i t (a.out i t h);
  back = λ i t h. a.back i t (b.back i t h);
}

later_settled : (m : Machine) (s : Speculation) (y : Ready) → m.done < m.given → slice_get m.slots m.done ≡ Some (In s) → Later m (settled m y)
later_settled m s y lt at = record {
  run = refl;
  shown = refl;
  done = omega arith;
  given = grind (arith, lt);
  out = λ i t h. set_get_other m.slots m.done i (Settled y) (λ (e : i ≡ m.done). let k : slice_get m.slots m.done ≡ Some (Out t) = subst (λ j. slice_get m.slots j ≡ Some (Out t)) e h in absurd (cc)) ∙ h;
  back = λ i t h. back i t (get_set m.slots m.done i (Settled y) (Out t) h);
}
  where
    back : (i : ℕ) (t : Taken) → ((i ≡ m.done) × (Out t ≡ Settled y)) ⊎ ((i ≢ m.done) × (slice_get m.slots i ≡ Some (Out t))) → slice_get m.slots i ≡ Some (Out t)
    back i t (inl e) = absurd (let k = e.1 in (cc))
    back i t (inr e) = e.1

later_commit : (m n : Machine) (r : Result Committed NoMemory) → IsSound m → Commits m r n → Later m n
later_commit m n (Ok Kept) w h = subst (Later m) (sym h.3) (later_settled m h.0 (ready_of m h.0) (w.fit m.done (In h.0) h.2).0.below h.2)
later_commit m n (Ok Again) w h = subst (Later m) (sym h.3) (later_settled m h.0 (ready_of m h.0) (w.fit m.done (In h.0) h.2).0.below h.2)
later_commit m n (Ok NotYet) w h = subst (Later m) (sym h.0) (later_refl m)
later_commit m n (Ok Finished) w h = subst (Later m) (sym h.0) (later_refl m)
later_commit m n (Err e) w h = subst (Later m) (sym h.0) (record { run = refl; shown = refl; done = omega arith; given = refl; out = λ i t k. k; back = λ i t k. k })

pub commits_later : CommitsLater
commits_later = record { none = later_refl; one = λ m n answer w h. later_commit m n answer w h; more = later_then }
