-- The events of the machine, and when each may come.
use Rattle.std.specs.Prelude.{◌≡◌, ℕ, ◌+◌, ◌-◌, ◌<◌, ◌≤◌, ◌^◌, Bool, true, false, if◌then◌else◌, nat_lt, List, [], ◌∷◌, length, slice_get, slice_set, replicate, Option, Some, None}
use Rattle.db_model.specs.declared.database.Database.{Database}
use Rattle.db_model.specs.declared.packet.Packet.{Packet}
use Rattle.db_model.specs.Session.{Session}
use Rattle.db_model.specs.Replay.{Difference, differs}
use Rattle.db_laws.specs.Laws.{InTime}
use Rattle.engine.specs.declared.texts.Wanted.{Wanted}
use Rattle.engine.specs.declared.receipt.Taken.{Taken}
use Rattle.engine.specs.declared.receipt.Why.{Why}
use Rattle.engine.specs.declared.receipt.Outcome.{Outcome}
use Rattle.engine.specs.declared.receipt.Outcome.TheVariants.{Kept, Again, Direct}
use Rattle.spec_core.specs.declared.slot.Ready.{Ready}
use Rattle.spec_core.specs.declared.slot.Slot.{Slot}
use Rattle.spec_core.specs.declared.slot.Slot.TheVariants.{Free, Out, In, Settled}
use Rattle.spec_core.specs.declared.slot.Speculation.{Speculation}
use Rattle.spec_core.specs.declared.texts.Texts.{Texts}
use Rattle.spec_core.specs.Jobs.{Known}
use Rattle.spec_core.specs.Machine.{Machine, IsMade, state_at, texts_from, stamp_at, taken_at}

-- ---- a window

-- no window was begun yet
abbrev pub opened : Database → Wanted → Session → ℕ → Machine
opened db wanted s first = record { run = record { db = db; wanted = wanted; base = s; first = first; packets = [] }; shown = 0; done = 0; given = 0; halted = false; slots = [] }

-- the packets have the next numbers, and all that was begun is settled and drained
pub record CanBegin (m : Machine) (qs : List Packet) : Type 0 where
  pub settled : m.done ≡ length m.run.packets
  pub drained : m.slots ≡ []
  pub some : 1 ≤ length qs
  pub few : length qs ≤ 256
  pub numbered : (i : ℕ) (p : Packet) → slice_get qs i ≡ Some p → p.number ≡ m.run.first + m.done + i
  pub last : m.run.first + m.done + length qs < 2 ^ 64
  pub timely : InTime qs

-- the base becomes the present state, and every packet is Free
abbrev pub begun : Machine → List Packet → Machine
begun m qs = record {
  run = record { db = m.run.db; wanted = m.run.wanted; base = state_at m.run m.done; first = m.run.first + m.done; packets = qs };
  shown = 0;
  done = 0;
  given = 0;
  halted = m.halted;
  slots = replicate (length qs) Free;
}

abbrev pub readies_of : List Slot → List Ready
readies_of [] = []
readies_of (Free ∷ ss) = readies_of ss
readies_of (Out t ∷ ss) = readies_of ss
readies_of (In s ∷ ss) = readies_of ss
readies_of (Settled y ∷ ss) = y ∷ readies_of ss

abbrev pub drained : Machine → Machine
drained m = record m { slots = [] }

-- ---- taking

abbrev pub published : Machine → Machine
published m = record m { shown = m.done }

-- a take publishes where the committed count is 64 or more above the published one
abbrev pub published_if_far : Machine → Machine
published_if_far m = record m { shown = if nat_lt (m.done - m.shown) 64 then m.shown else m.done }

abbrev pub taken_of : Machine → Taken
taken_of m = record { v = m.run.first + m.shown; c = m.run.first + m.done }

-- a packet can be given out
pub record CanTake (m : Machine) : Type 0 where
  pub room : m.given < length m.run.packets
  pub near : m.done < m.shown + 64

-- the job of the least Free packet
abbrev pub job_of : Machine → Known
job_of m = record { number = m.run.first + m.given; taken = taken_of m; wanted = m.run.wanted; packet = slice_get m.run.packets m.given; view = record { database = m.run.db; content = state_at m.run m.shown } }

abbrev pub took : Machine → Machine
took m = record m { given = m.given + 1; slots = slice_set m.slots m.given (Out (taken_of m)) }

-- the packet that was given last is out with this v and c
pub record CanPutBack (m : Machine) (number : ℕ) (t : Taken) : Type 0 where
  pub begins : m.run.first ≤ number
  pub newest : m.given ≡ number - m.run.first + 1
  pub out : slice_get m.slots (number - m.run.first) ≡ Some (Out t)

abbrev pub untook : Machine → Machine
untook m = record m { given = m.given - 1; slots = slice_set m.slots (m.given - 1) Free }

-- ---- delivering

-- the speculation is of a packet that is out with its v and c, decoded from the state of its v
pub record CanDeliver (m : Machine) (s : Speculation) : Type 0 where
  pub begins : m.run.first ≤ s.number
  pub out : slice_get m.slots (s.number - m.run.first) ≡ Some (Out s.taken)
  pub made : IsMade m.run (s.number - m.run.first) s

abbrev pub delivered : Machine → Speculation → Machine
delivered m s = record m { slots = slice_set m.slots (s.number - m.run.first) (In s) }

-- ---- settling

abbrev pub is_in : Option Slot → Bool
is_in None = false
is_in (Some Free) = false
is_in (Some (Out t)) = false
is_in (Some (In s)) = true
is_in (Some (Settled y)) = false

-- the next packet is settled so
abbrev pub settled : Machine → Ready → Machine
settled m y = record m { done = m.done + 1; given = if nat_lt m.done m.given then m.given else m.done + 1; slots = slice_set m.slots m.done (Settled y) }

abbrev pub outcome_of : Option Difference → Outcome
outcome_of None = Kept
outcome_of (Some d) = Again d.place d.old d.new

-- where the log of a delivered packet first differs from the serial state
abbrev pub difference : Machine → Speculation → Option Difference
difference m s = differs m.run.db (stamp_at m.run m.done) s.log (state_at m.run m.done)

-- what a delivered packet becomes
abbrev pub ready_of : Machine → Speculation → Ready
ready_of m s = record { texts = texts_from m.run m.done m.done; receipt = record { number = m.run.first + m.done; taken = Some s.taken; outcome = outcome_of (difference m s) } }

-- what a packet becomes that is decoded directly
abbrev pub direct_of : Machine → Why → Ready
direct_of m why = record { texts = texts_from m.run m.done m.done; receipt = record { number = m.run.first + m.done; taken = taken_at m m.done; outcome = Direct why } }

abbrev pub stopped : Machine → Machine
stopped m = record m { halted = true }

-- ---- slots by themselves

abbrev pub or_else : Option Texts → Texts → Texts
or_else None own = own
or_else (Some given) own = given

-- a delivered packet, settled
abbrev pub settled_slot : Slot → Option Texts → Outcome → Slot
settled_slot Free texts o = Free
settled_slot (Out t) texts o = Out t
settled_slot (In s) texts o = Settled (record { texts = or_else texts s.texts; receipt = record { number = s.number; taken = Some s.taken; outcome = o } })
settled_slot (Settled y) texts o = Settled y
