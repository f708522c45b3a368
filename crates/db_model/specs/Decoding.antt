-- The decoding of one packet: what it asks, and what it is over a session.
use Rattle.std.specs.Prelude.{◌-◌, if◌then◌else◌, nat_lt, List, [], ◌∷◌, ◌++◌, map, length, drop, None}
use Rattle.db_model.specs.declared.database.Database.{Database}
use Rattle.db_model.specs.declared.env.Env.{Env}
use Rattle.db_model.specs.declared.env.Frame.{Frame}
use Rattle.db_model.specs.declared.expression.Literal.{Literal}
use Rattle.db_model.specs.declared.expression.Literal.TheVariants.{Number, Text, Protocol}
use Rattle.db_model.specs.declared.limits.TheConstants.{MOST_TURNS, MOST_NODES, MOST_ENTERED, MOST_QUESTIONS, PAYLOAD}
use Rattle.db_model.specs.declared.packet.Packet.{Packet}
use Rattle.db_model.specs.declared.tree.Node.TheVariants.{Field}
use Rattle.db_model.specs.declared.tree.Proto.{Proto}
use Rattle.db_model.specs.declared.value.Value.{Value}
use Rattle.db_model.specs.declared.value.Value.TheVariants as value
use Rattle.db_model.specs.Chain.{chain}
use Rattle.db_model.specs.Names.{startproto, protocol_at}
use Rattle.db_model.specs.Questions.{Asks, Gives, and_then, Played, play}
use Rattle.db_model.specs.Session.{Session}

abbrev pub literal : Database → Literal → Value
literal db (Number n) = value.Num n
literal db (Text b) = value.Buf b
literal db (Protocol name) = value.Proto (protocol_at db name)

-- a decoding begins at position 0, with the limit at the packet's end, each variable at its declared value, no row hit and full budgets
abbrev pub start_env : Database → Packet → Env
start_env db p = record {
  packet = p;
  at = 0;
  limit = length p.bytes;
  origin = 0;
  vars = map (λ v. literal db v.value) db.variables;
  hits = map (λ d. None) db.tables;
  present = [];
  turns = MOST_TURNS;
  questions = MOST_QUESTIONS;
}

abbrev pub start : Database → Packet → Frame
start db p = record { env = start_env db p; nodes = MOST_NODES }

-- the bytes that are left, as a protocol with one field
abbrev pub payload : Frame → List Proto
payload z = if nat_lt z.env.at (length z.env.packet.bytes) then record { number = PAYLOAD; pos = z.env.at; size = length z.env.packet.bytes - z.env.at; nodes = Field 0 z.env.at (length z.env.packet.bytes - z.env.at) (drop z.env.at z.env.packet.bytes) ∷ [] } ∷ [] else []

-- what the decoding of a packet asks, and the tree that it gives
unfoldable pub decoding : Database → Packet → Asks (List Proto)
decoding db p = and_then (chain db MOST_ENTERED (protocol_at db startproto) (start db p)) (λ r. Gives (r.0 ++ payload r.1))

-- the decoding over a session: the tree, the session after it and the log
unfoldable pub dec : Database → Packet → Session → Played (List Proto)
dec db p s = play db p.stamp (decoding db p) s
