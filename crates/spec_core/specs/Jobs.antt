-- What a job is seen as.
use Rattle.std.specs.Prelude.{◌≡◌, ℕ, ◌<◌, slice_get, Option, Some}
use Rattle.std.specs.Arc.{arc_value}
use Rattle.db_model.specs.declared.limits.TheConstants.{STAMP_END}
use Rattle.db_model.specs.declared.packet.Packet.{Packet}
use Rattle.engine.specs.declared.receipt.Taken.{Taken}
use Rattle.engine.specs.declared.texts.Wanted.{Wanted}
use Rattle.session.specs.State.{View}
use Rattle.spec_core.specs.declared.job.Job.TheInside.{Inside}

-- the number of a packet, when it was taken, which of its texts are wanted, the packet, and the view with which it was
-- taken
pub record Known : Type 0 where
  pub number : ℕ
  pub taken : Taken
  pub wanted : Wanted
  pub packet : Option Packet
  pub view : View

abbrev pub known : Inside → Known
known j = record { number = j.number; taken = j.taken; wanted = j.wanted; packet = slice_get (arc_value j.packets) j.at; view = arc_value j.view }

-- there is such a packet, and it is in time
pub record IsJob (j : Inside) : Type 0 where
  pub packet : Packet
  pub packet_is : slice_get (arc_value j.packets) j.at ≡ Some packet
  pub time : packet.stamp < STAMP_END
