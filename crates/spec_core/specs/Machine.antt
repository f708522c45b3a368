-- The core as a machine: a base, the packets of a window, and a slot for each.
use Rattle.std.specs.Prelude.{◌≡◌, ◌⊎◌, ℕ, ◌+◌, ◌-◌, ◌<◌, ◌≤◌, Bool, List, length, slice_get, Option, Some, None}
use Rattle.db_model.specs.declared.database.Database.{Database}
use Rattle.db_model.specs.declared.packet.Packet.{Packet}
use Rattle.db_model.specs.declared.tree.Proto.{Proto}
use Rattle.db_model.specs.Questions.{Played}
use Rattle.db_model.specs.Replay.{Agrees, differs}
use Rattle.db_model.specs.Serial.{decoded, state}
use Rattle.db_model.specs.Session.{Session}
use Rattle.db_laws.specs.Laws.{InTime}
use Rattle.engine.specs.declared.receipt.Taken.{Taken}
use Rattle.engine.specs.declared.receipt.Outcome.{Outcome}
use Rattle.engine.specs.declared.receipt.Outcome.TheVariants.{Kept, Again, Direct}
use Rattle.engine.specs.declared.receipt.Receipt.{Receipt}
use Rattle.engine.specs.declared.texts.Wanted.{Wanted}
use Rattle.spec_core.specs.declared.slot.Ready.{Ready}
use Rattle.spec_core.specs.declared.slot.Slot.{Slot}
use Rattle.spec_core.specs.declared.slot.Slot.TheVariants.{Free, Out, In, Settled}
use Rattle.spec_core.specs.declared.slot.Speculation.{Speculation}
use Rattle.spec_core.specs.declared.texts.Texts.{Texts}
use Rattle.spec_core.specs.Texts.{texts_in}

-- which run it is: the database, which texts are wanted, the session and the number that the window begins with, and
-- its packets
pub record Run : Type 0 where
  pub db : Database
  pub wanted : Wanted
  pub base : Session
  pub first : ℕ
  pub packets : List Packet

-- shown, done and given are places of the window: how many packets the published view holds, how many are committed,
-- and the first that is Free. There is a slot for each packet, or none where the window is drained
pub record Machine : Type 0 where
  pub run : Run
  pub shown : ℕ
  pub done : ℕ
  pub given : ℕ
  pub halted : Bool
  pub slots : List Slot

-- the moment of a packet
abbrev pub stamp_in : Option Packet → ℕ
stamp_in None = 0
stamp_in (Some p) = p.stamp

module _ (r : Run) where
  -- the serial state after i packets of the window
  abbrev pub state_at : ℕ → Session
  state_at i = state r.db r.base r.packets i

  -- the packet at place i, decoded from the state of place v
  abbrev pub from_view : ℕ → ℕ → Played (List Proto)
  from_view i v = decoded r.db (slice_get r.packets i) (state_at v)

  -- the texts of that
  abbrev pub texts_from : ℕ → ℕ → Texts
  texts_from i v = texts_in r.wanted r.db (slice_get r.packets i) (from_view i v).result

  abbrev pub stamp_at : ℕ → ℕ
  stamp_at i = stamp_in (slice_get r.packets i)

  -- the place of the view with which a packet was taken
  abbrev pub view_of : Taken → ℕ
  view_of t = t.v - r.first

  -- the packets have the next numbers, there are few of them, and their moments are in time
  pub record IsRun : Type 0 where
    pub few : length r.packets ≤ 256
    pub numbered : (i : ℕ) (p : Packet) → slice_get r.packets i ≡ Some p → p.number ≡ r.first + i
    pub timely : InTime r.packets

  -- the packet at place i was taken so
  pub record IsTaken (i : ℕ) (t : Taken) : Type 0 where
    pub from_base : r.first ≤ t.v
    pub ordered : t.v ≤ t.c
    pub earlier : t.c ≤ r.first + i
    pub near : t.c < t.v + 64
    pub recent : r.first + i < t.v + 256

  abbrev pub WasTaken : ℕ → Option Taken → Type 0
  WasTaken i None = Unit {0}
  WasTaken i (Some t) = IsTaken i t

  -- what its log says of the serial state
  abbrev pub OutcomeIs : ℕ → Option Taken → Outcome → Type 0
  OutcomeIs i (Some t) Kept = Agrees r.db (stamp_at i) (from_view i (view_of t)).log (state_at i)
  OutcomeIs i (Some t) (Again index old new) = differs r.db (stamp_at i) (from_view i (view_of t)).log (state_at i) ≡ Some (record { place = index; old = old; new = new })
  OutcomeIs i (Some t) (Direct why) = Unit {0}
  OutcomeIs i None (Direct why) = Unit {0}
  OutcomeIs i None Kept = ⊥
  OutcomeIs i None (Again index old new) = ⊥

  -- the receipt of the packet at place i
  pub record IsLegal (i : ℕ) (q : Receipt) : Type 0 where
    pub number : q.number ≡ r.first + i
    pub taken : WasTaken i q.taken
    pub outcome : OutcomeIs i q.taken q.outcome

  -- a packet that was decoded from its own view
  pub record IsMade (i : ℕ) (s : Speculation) : Type 0 where
    pub number : s.number ≡ r.first + i
    pub log : s.log ≡ (from_view i (view_of s.taken)).log
    pub texts : s.texts ≡ texts_from i (view_of s.taken)

  -- a settled packet has the texts of the serial decoding, and a legal receipt
  pub record IsSettled (i : ℕ) (y : Ready) : Type 0 where
    pub texts : y.texts ≡ texts_from i i
    pub receipt : IsLegal i y.receipt

-- v and c, where a packet was taken
abbrev pub taken_in : Option Slot → Option Taken
taken_in None = None
taken_in (Some Free) = None
taken_in (Some (Out t)) = Some t
taken_in (Some (In s)) = Some s.taken
taken_in (Some (Settled y)) = y.receipt.taken

-- what stands in a slot, by which packets are committed and given
module _ (r : Run) (done given : ℕ) where
  -- a packet that is out or in
  pub record IsPending (i : ℕ) (t : Taken) : Type 0 where
    pub below : i < given
    pub unsettled : done ≤ i
    pub taken : IsTaken r i t

  abbrev pub Fits : ℕ → Slot → Type 0
  Fits i Free = given ≤ i
  Fits i (Out t) = IsPending i t
  Fits i (In s) = IsPending i s.taken × IsMade r i s
  Fits i (Settled y) = (i < given) × (i < done) × IsSettled r i y

-- a slot for each packet; or, in a window that is all committed, none
abbrev pub HasSlots : ℕ → ℕ → ℕ → Type 0
HasSlots slots packets done = (slots ≡ packets) ⊎ ((slots ≡ 0) × (done ≡ packets))

module _ (m : Machine) where
  abbrev pub taken_at : ℕ → Option Taken
  taken_at i = taken_in (slice_get m.slots i)

  pub record IsWithin (t : Taken) : Type 0 where
    pub shown : t.v ≤ m.run.first + m.shown
    pub done : t.c ≤ m.run.first + m.done

  -- v and c never go beyond the present ones, and never fall from packet to packet
  pub record InOrder : Type 0 where
    pub within : (i : ℕ) (t : Taken) → taken_at i ≡ Some t → IsWithin t
    pub v_rises : (i j : ℕ) (t u : Taken) → i < j → taken_at i ≡ Some t → taken_at j ≡ Some u → t.v ≤ u.v
    pub c_rises : (i j : ℕ) (t u : Taken) → i < j → taken_at i ≡ Some t → taken_at j ≡ Some u → t.c ≤ u.c

  pub record IsSound : Type 0 where
    pub run : IsRun m.run
    pub slots : HasSlots (length m.slots) (length m.run.packets) m.done
    pub order : (m.shown ≤ m.done) × (m.done ≤ m.given) × (m.given ≤ length m.run.packets)
    pub fit : (i : ℕ) (s : Slot) → slice_get m.slots i ≡ Some s → Fits m.run m.done m.given i s
    pub taken : InOrder
