-- What the calls of the core answer, and what they leave.
use Rattle.std.specs.Prelude.{◌≡◌, ◌⊎◌, ℕ, ◌+◌, ◌<◌, true, false, length, slice_get, Option, Some, None, Result, Ok, Err}
use Rattle.db_model.specs.declared.no_memory.NoMemory.{NoMemory}
use Rattle.db_model.specs.Replay.{Difference}
use Rattle.spec_core.specs.declared.committed.Committed.{Committed}
use Rattle.spec_core.specs.declared.committed.Committed.TheVariants.{Kept, Again, NotYet, Finished}
use Rattle.engine.specs.declared.receipt.Outcome.{Outcome}
use Rattle.engine.specs.declared.receipt.Outcome.TheVariants as outcome
use Rattle.spec_core.specs.declared.slot.Slot.TheVariants.{In}
use Rattle.spec_core.specs.declared.slot.Speculation.{Speculation}
use Rattle.spec_core.specs.Events.{settled, ready_of, stopped, is_in, difference, published_if_far, took, job_of}
use Rattle.spec_core.specs.Jobs.{Known}
use Rattle.spec_core.specs.Machine.{Machine}
use Rattle.spec_core.specs.Settling.{AtMostOne}

-- a take: all is taken; or the least Free packet is. A refusal publishes at most, and a halted core does nothing
abbrev pub Takes : Machine → Result (Option Known) NoMemory → Machine → Type 0
Takes m (Ok None) n = (n ≡ m) × (m.halted ≡ false) × (m.given ≡ length m.run.packets)
Takes m (Ok (Some j)) n = (n ≡ took (published_if_far m)) × (m.halted ≡ false) × (m.given < length m.run.packets) × (j ≡ job_of (published_if_far m))
Takes m (Err e) n = ((n ≡ m) × (m.halted ≡ true)) ⊎ (((n ≡ m) ⊎ (n ≡ published_if_far m)) × (m.halted ≡ false) × (m.given < length m.run.packets))

-- the delivered packet was settled, and this holds of its first difference
abbrev pub Settles : (Option Difference → Type 0) → Machine → Machine → Type 0
Settles P m n = (s : Speculation) × (m.halted ≡ false) × (slice_get m.slots m.done ≡ Some (In s)) × (n ≡ settled m (ready_of m s)) × P (difference m s)

abbrev pub IsNone : Option Difference → Type 0
IsNone d = d ≡ None

abbrev pub IsADifference : Option Difference → Type 0
IsADifference None = ⊥
IsADifference (Some d) = Unit {0}

-- a commit: the next packet is kept exactly where its log agrees, and else decoded again; it isn't delivered; or all
-- are committed. Only the settling of a delivered packet is refused, and a halted core
abbrev pub Commits : Machine → Result Committed NoMemory → Machine → Type 0
Commits m (Ok Kept) n = Settles IsNone m n
Commits m (Ok Again) n = Settles IsADifference m n
Commits m (Ok NotYet) n = (n ≡ m) × (m.halted ≡ false) × (m.done < length m.run.packets) × (is_in (slice_get m.slots m.done) ≡ false)
Commits m (Ok Finished) n = (n ≡ m) × (m.halted ≡ false) × (m.done ≡ length m.run.packets)
Commits m (Err e) n = (n ≡ stopped m) × ((m.halted ≡ true) ⊎ (is_in (slice_get m.slots m.done) ≡ true))

abbrev pub committed_by : Outcome → Committed
committed_by outcome.Kept = Kept
committed_by (outcome.Again i old new) = Again
committed_by (outcome.Direct why) = Again

-- how many decodings a commit takes
abbrev pub Counts : Result Committed NoMemory → ℕ → ℕ → Type 0
Counts (Ok Kept) old new = new ≡ old
Counts (Ok Again) old new = new ≡ old + 1
Counts (Ok NotYet) old new = new ≡ old
Counts (Ok Finished) old new = new ≡ old
Counts (Err e) old new = AtMostOne old new
