-- The way of packets, window by window: what holds on it, and what a window on it comes to.
use Rattle.std.specs.Prelude.{◌≡◌, ◌<◌, ◌+◌, ◌^◌, ℕ, [], Result, IsSome, IsTrue}
use Rattle.db_model.specs.declared.database.Database as model
use Rattle.db_model.specs.Session.{declared}
use Rattle.npd_host.specs.Host.{Inputs, Outputs}
use Rattle.pcap_in.specs.Reader.{Reader, is_reading, InReach}
use Rattle.pipeline.specs.declared.pipeline.Pipeline.{Pipeline}
use Rattle.pipeline.specs.declared.reading.Noted.{Noted}
use Rattle.pipeline.specs.declared.reading.Room.{Room}
use Rattle.pipeline.specs.declared.sinks.Sinks.{Sinks}
use Rattle.pipeline.specs.declared.status.Status.{Status}
use Rattle.pipeline.specs.Packets.{Standing, Turns}
use Rattle.pipeline.specs.Serial.{serial_lines}
use Rattle.pipeline.specs.Taken.{AreGiven}
use Rattle.pipeline.specs.Written.{AreApart}

-- where the work stands, when so many packets were decoded, and inputs give and outputs have taken this
abbrev pub standing : Pipeline → ℕ → Inputs → Outputs → Standing
standing way decoded inputs outputs = record {
  reader = way.reader;
  session = way.session.content;
  left = way.room.left;
  inputs = inputs;
  outputs = outputs;
  decoded = decoded;
}

-- a window may follow: the session is one of the database, what is read is in reach, what is written was given, and as
-- many packets were read and may still be read as in the whole run
pub record IsFlowing (way : Pipeline) (inputs : Inputs) (outputs : Outputs) : Type 0 where
  pub database : way.session.database ≡ way.engine.now
  pub reading : IsTrue (is_reading way.reader.state)
  pub input : IsSome (inputs.name way.reader.id.0)
  pub reach : InReach way.reader inputs
  pub given : AreGiven way.sinks outputs.name
  pub apart : AreApart way.sinks
  pub window : 0 < way.room.window
  pub counted : way.reader.number + way.room.left ≡ way.room.most
  pub fits : way.room.most < 2 ^ 32

-- no packet was read or decoded yet
pub record IsFresh (way : Pipeline) : Type 0 where
  pub number : way.reader.number ≡ 0
  pub kept : way.reader.kept ≡ []
  pub session : way.session.content ≡ declared way.engine.now

-- a way was made so
pub record Begins (db : model.Database) (reader : Reader) (sinks : Sinks) (room : Room) (way : Pipeline) : Type 0 where
  pub engine : way.engine.now ≡ db
  pub reader_is : way.reader ≡ reader
  pub sinks_are : way.sinks ≡ sinks
  pub room_is : way.room ≡ room
  pub database : way.session.database ≡ db
  pub content : way.session.content ≡ declared db

-- what never changes on it
pub record GoesOn (old new : Pipeline) : Type 0 where
  pub engine : new.engine.now ≡ old.engine.now
  pub sinks : new.sinks ≡ old.sinks
  pub window : new.room.window ≡ old.room.window
  pub most : new.room.most ≡ old.room.most

-- a window on it came to that
abbrev pub TurnsWindow : Pipeline → Result Noted Status → Standing → Standing → Type 0
TurnsWindow way result a b = Turns way.engine.now serial_lines way.sinks way.room result a b
