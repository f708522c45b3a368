-- One protocol after another, as each names the next.
use Rattle.std.specs.Prelude.{ℕ, zero, suc, ◌-◌, Bool, true, false, nat_le, List, [], ◌∷◌, ◌++◌, length, slice_get, Option, Some, None}
use Rattle.db_model.specs.declared.database.Database.{Database}
use Rattle.db_model.specs.declared.database.ExecuteCode.{ExecuteCode}
use Rattle.db_model.specs.declared.database.Protocol.{Protocol}
use Rattle.db_model.specs.declared.element.Element.{Element}
use Rattle.db_model.specs.declared.env.Frame.{Frame}
use Rattle.db_model.specs.declared.env.Way.{Way}
use Rattle.db_model.specs.declared.env.Way.TheVariants.{Next, Break, Continue, Chose, Stop}
use Rattle.db_model.specs.declared.tree.Node.{Node}
use Rattle.db_model.specs.declared.tree.Node.TheVariants.{Note}
use Rattle.db_model.specs.declared.tree.Proto.{Proto}
use Rattle.db_model.specs.declared.tree.Reason.TheVariants as reason
use Rattle.db_model.specs.Elements.{list}
use Rattle.db_model.specs.Numbering.{none, elements_in, fields_in}
use Rattle.db_model.specs.Questions.{Gives, and_then, Step}
use Rattle.db_model.specs.Runs.{Run, next}

abbrev pub before_in : Option ExecuteCode → List Element
before_in None = []
before_in (Some e) = elements_in e.before

abbrev pub after_in : Option ExecuteCode → List Element
after_in None = []
after_in (Some e) = elements_in e.after

-- the elements of a protocol, in the order in which they run
abbrev pub elements_of : Protocol → List Element
elements_of p = before_in p.execute_code ++ (fields_in p.format ++ (after_in p.execute_code ++ elements_in p.encapsulation))

abbrev pub protocol_run : Database → Option Protocol → Run
protocol_run db None = next
protocol_run db (Some p) = list db p (elements_of p) none

-- the origin becomes the position, and no field is present yet
abbrev pub entered : Frame → Frame
entered z = record z { env = record z.env { origin = z.env.at; present = [] } }

-- a protocol of the tree, from its origin to the position where it ended
abbrev pub proto_from : ℕ → ℕ → List Node → Frame → Proto
proto_from number from nodes z = record { number = number; pos = from; size = z.env.at - from; nodes = nodes }

abbrev pub ends : ℕ → ℕ → List Node → Step Frame (List Proto)
ends number from nodes = λ z. Gives (proto_from number from nodes z ∷ [], z)

-- whether no byte is left
abbrev pub is_at_end : Frame → Bool
is_at_end z = nat_le (length z.env.packet.bytes) z.env.at

-- a named protocol: none where no byte is left; a note in this one where no protocol is left; else it goes on
abbrev pub onward : Bool → ℕ → (ℕ → Step Frame (List Proto)) → ℕ → ℕ → ℕ → List Node → Step Frame (List Proto)
onward true left go number from q nodes z = ends number from nodes z
onward false zero go number from q nodes z = ends number from (nodes ++ Note reason.Protocols z.env.at ∷ []) z
onward false (suc left) go number from q nodes z = and_then (go q z) (λ r. Gives (proto_from number from nodes z ∷ r.0, r.1))

-- what follows a protocol, by the way it ended
abbrev pub follow : Way → ℕ → (ℕ → Step Frame (List Proto)) → ℕ → ℕ → List Node → Step Frame (List Proto)
follow (Chose q) left go number from nodes z = onward (is_at_end z) left go number from q nodes z
follow Next left go number from nodes z = ends number from nodes z
follow Break left go number from nodes z = ends number from nodes z
follow Continue left go number from nodes z = ends number from nodes z
follow (Stop r) left go number from nodes z = ends number from nodes z

-- the chain from a protocol, of which so many may still be entered
unfoldable pub chain : Database → ℕ → ℕ → Step Frame (List Proto)
chain db zero q z = Gives ([], z)
chain db (suc n) q z = and_then (protocol_run db (slice_get db.protocols q) (entered z)) (λ r. follow r.0.0 n (chain db n) q z.env.at r.0.1 r.1)
