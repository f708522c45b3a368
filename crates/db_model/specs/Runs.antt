-- The words of which the meaning of elements is made. A run is a computation over a frame that ends in a way, with the nodes that it added.
use Rattle.std.specs.Prelude.{ℕ, zero, suc, ◌+◌, ◌-◌, if◌then◌else◌, nat_lt, nat_le, List, [], ◌∷◌, ◌++◌, take, drop, Option, Some, None, Result, Ok, Err}
use Rattle.db_model.specs.declared.env.Env.{Env}
use Rattle.db_model.specs.declared.env.Frame.{Frame}
use Rattle.db_model.specs.declared.env.Way.{Way}
use Rattle.db_model.specs.declared.env.Way.TheVariants.{Next, Break, Continue, Chose, Stop}
use Rattle.db_model.specs.declared.field_kind.FieldKind.{FieldKind}
use Rattle.db_model.specs.declared.tree.Node.{Node}
use Rattle.db_model.specs.declared.tree.Node.TheVariants.{Field, Block, Note}
use Rattle.db_model.specs.declared.tree.Reason.{Reason}
use Rattle.db_model.specs.declared.tree.Reason.TheVariants as reason
use Rattle.db_model.specs.Questions.{Asks, Gives, and_then, Step, pure, ◌then◌}
use Rattle.db_model.specs.Expression.{Eval, is_so}
use Rattle.db_model.specs.Extent.{extent, value_by, step_by}

abbrev pub Went : Type 0
Went = Way × List Node

abbrev pub Run : Type 0
Run = Step Frame Went

abbrev pub leave : Way → Run
leave w = pure (w, [])

abbrev pub next : Run
next = leave Next

-- the end of a packet's decoding. Its note is the last node of the innermost list
abbrev pub halt : Reason → Run
halt r = λ z. Gives ((Stop r, Note r z.env.at ∷ []), z)

-- the nodes that are there, before those of the run
abbrev pub behind : List Node → Run → Run
behind ns p = λ z. and_then (p z) (λ r. Gives ((r.0.0, ns ++ r.0.1), r.1))

-- what comes next in a list: only the way Next goes on
abbrev pub go_on : Way → List Node → Run → Run
go_on Next ns rest = behind ns rest
go_on Break ns rest = pure (Break, ns)
go_on Continue ns rest = pure (Continue, ns)
go_on (Chose q) ns rest = pure (Chose q, ns)
go_on (Stop r) ns rest = pure (Stop r, ns)

abbrev pub go : Run → Went → Run
go rest w = go_on w.0 w.1 rest

-- ---- values

-- an evaluation, on the frame that holds its state
abbrev pub within : {A : Type 0} → Eval A → Step Frame (Result A Reason)
within p = λ z. and_then (p z.env) (λ r. Gives (r.0, record z { env = r.1 }))

abbrev pub or_halt : {A : Type 0} → (A → Run) → Result A Reason → Run
or_halt f (Ok v) = f v
or_halt f (Err r) = halt r

-- a run from the value of an evaluation, whose reason ends the decoding
abbrev pub evaluated : {A : Type 0} → Eval A → (A → Run) → Run
evaluated p f = within p then or_halt f

-- ---- nodes

-- a field or a block takes one of the nodes that are left
abbrev pub node_at : Run → Frame → ℕ → Asks (Went × Frame)
node_at p z zero = halt reason.Nodes z
node_at p z (suc n) = p (record z { nodes = n })

abbrev pub spend_node : Run → Run
spend_node p = λ z. node_at p z z.nodes

-- a block is closed on every way, and passes it on
abbrev pub closed : ℕ → ℕ → Went → Run
closed n from w = λ z. Gives ((w.0, Block n from (z.env.at - from) w.1 ∷ []), z)

-- a block spends its node before its body runs
abbrev pub block : ℕ → Run → Run
block n body = spend_node (λ z. and_then (body z) (λ r. closed n z.env.at r.0 r.1))

abbrev pub field_value : FieldKind → ℕ → Env → List ℕ
field_value kind size z = value_by kind (take size (drop z.at z.packet.bytes))

-- a field of this size: its node, its value among the decoded fields, and the position behind it
abbrev pub add_field : FieldKind → ℕ → ℕ → Run
add_field kind n size = λ z. Gives ((Next, Field n z.env.at size (field_value kind size z.env) ∷ []), record z { env = record z.env { at = z.env.at + step_by kind size; present = z.env.present ++ (n, field_value kind size z.env) ∷ [] } })

abbrev pub sized_field : FieldKind → ℕ → Option ℕ → Run
sized_field kind n None = halt reason.Short
sized_field kind n (Some size) = spend_node (add_field kind n size)

-- a field finds its extent before it spends its node
abbrev pub place_field : FieldKind → ℕ → ℕ → Run
place_field kind n k = λ z. sized_field kind n (extent kind z.env.packet.bytes z.env.at z.env.limit z.env.origin k) z

-- ---- loops

-- what follows a turn of a loop
abbrev pub turned : Way → List Node → Run → Run
turned Next ns rest = behind ns rest
turned Continue ns rest = behind ns rest
turned Break ns rest = pure (Next, ns)
turned (Chose q) ns rest = pure (Chose q, ns)
turned (Stop r) ns rest = pure (Stop r, ns)

abbrev pub with_turns : ℕ → Frame → Frame
with_turns n z = record z { env = record z.env { turns = n } }

-- a turn takes one of the turns that are left
abbrev pub turn_at : Run → Run → Frame → ℕ → Asks (Went × Frame)
turn_at body rest z zero = halt reason.Turns z
turn_at body rest z (suc n) = (body then (λ w. turned w.0 w.1 rest)) (with_turns n z)

abbrev pub turn : Run → Run → Run
turn body rest = λ z. turn_at body rest z z.env.turns

-- so many turns
abbrev pub count : ℕ → Run → Run
count zero body z = next z
count (suc n) body z = turn body (count n body) z

-- turns while the test isn't 0, of which at most n are left; where none is left, a test that isn't 0 wants one more
abbrev pub repeat : ℕ → Eval ℕ → Run → Run
repeat zero test body z = evaluated test (λ v. if is_so v then halt reason.Turns else next) z
repeat (suc n) test body z = evaluated test (λ v. if is_so v then turn body (repeat n test body) else next) z

abbrev pub looped : Eval ℕ → Run → Run
looped test body = λ z. repeat z.env.turns test body z

-- 1 while the position is before the limit
abbrev pub before_limit : Eval ℕ
before_limit = λ z. Gives (Ok (if nat_lt z.at z.limit then 1 else 0), z)

abbrev pub limited : ℕ → Frame → Frame
limited n z = record z { env = record z.env { limit = n } }

-- a run with the limit so many bytes on; the old limit is set again on every way
abbrev pub around : ℕ → Run → Run
around n p = λ z. and_then (p (limited (z.env.at + n) z)) (λ r. Gives (r.0, limited z.env.limit r.1))

-- the same, where so many bytes stand before the limit
abbrev pub under_limit : ℕ → Run → Run
under_limit n p = λ z. (if nat_le n (z.env.limit - z.env.at) then around n p else halt reason.Short) z
