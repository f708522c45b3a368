-- Worked examples: databases, packets, and what decoding them gives.
use Rattle.std.specs.Prelude.{◌≡◌, ℕ, ◌*◌, true, List, [], ◌∷◌, map, codes, Option, Some, None, Result, Ok, Err}
use Rattle.db_model.specs.declared.database.Database.{Database}
use Rattle.db_model.specs.declared.entry.Entry.{Entry}
use Rattle.db_model.specs.declared.entry.Validity.TheVariants.{AddOnHit, UpdateOnHit}
use Rattle.db_model.specs.declared.expression.Expr as expr
use Rattle.db_model.specs.declared.expression.Expr.{Expr}
use Rattle.db_model.specs.declared.expression.Operator.TheVariants as op
use Rattle.db_model.specs.declared.limits.TheConstants.{SECOND}
use Rattle.db_model.specs.declared.packet.Packet.{Packet}
use Rattle.db_model.specs.declared.question.Answer.{Answer}
use Rattle.db_model.specs.declared.question.Answer.TheVariants.{Miss, Hit, Done}
use Rattle.db_model.specs.declared.tree.Node.{Node}
use Rattle.db_model.specs.declared.tree.Node.TheVariants.{Field, Block', Note}
use Rattle.db_model.specs.declared.tree.Proto.{Proto}
use Rattle.db_model.specs.declared.tree.Reason.{Reason}
use Rattle.db_model.specs.declared.tree.Reason.TheVariants.{Short, Turns, Range, Zero, Slice, Size}
use Rattle.db_model.specs.declared.expression.TypeFault.TheVariants.{Mistyped}
use Rattle.db_model.specs.declared.value.Ty.TheVariants as ty
use Rattle.db_model.specs.declared.value.Value.{Value}
use Rattle.db_model.specs.declared.value.Value.TheVariants.{Num, Buf}
use Rattle.db_model.specs.declared.value.Value.TheVariants as value
use Rattle.db_model.specs.Bare.{bare}
use Rattle.db_model.specs.Decoding.{start_env}
use Rattle.db_model.specs.Expression.{val}
use Rattle.db_model.specs.Objection.{objection}
use Rattle.db_model.specs.Questions.{play}
use Rattle.db_examples.specs.Samples.{frame_db, unfollowed_db, looping_db, empty_db}
use Rattle.db_model.specs.Serial.{state, tree, log}
use Rattle.db_model.specs.Session.{Session, declared}
use Rattle.db_examples.specs.SessionPackets.{captured, conversation, request_tree, answer_tree, stray_tree}
use Rattle.db_examples.specs.SessionSample.{sessions_db}
use Rattle.db_model.specs.Shape.{is_shaped}
use Rattle.db_model.specs.Typing.{type_of}
use Rattle.db_examples.specs.TableSample.{table_db}

-- the answers in the log of the packet at place k
abbrev pub answers : Database → List Packet → ℕ → List Answer
answers db ps k = map (λ e. e.1) (log db (declared db) ps k)

abbrev pub tree_of : Database → List Packet → ℕ → List Proto
tree_of db ps k = tree db (declared db) ps k

-- ---- sessions

-- a request adds the session by which its answer is shown as text; an answer without a session shows payload
pub record SessionIsHit : Type 0 where
  pub request : tree_of sessions_db conversation 0 ≡ request_tree
  pub request_answers : answers sessions_db conversation 0 ≡ Done ∷ Miss ∷ []
  pub answer : tree_of sessions_db conversation 1 ≡ answer_tree
  pub answer_answers : answers sessions_db conversation 1 ≡ Hit (value.Proto 4 ∷ []) ∷ []
  pub stray : tree_of sessions_db conversation 2 ≡ stray_tree
  pub stray_answers : answers sessions_db conversation 2 ≡ Miss ∷ []

-- the first protocol runs also on an empty packet, and the chain ends there
abbrev pub EmptyPacket : Type 0
EmptyPacket = tree_of sessions_db (captured 0 5000000007 [] ∷ []) 0 ≡ record { number = 0; pos = 0; size = 0; nodes = [] } ∷ []

-- a field past the packet's end leaves a note, and the rest is payload
abbrev pub ShortPacket : Type 0
ShortPacket = tree_of sessions_db (captured 0 0 (2 ∷ 0 ∷ 0 ∷ 0 ∷ 0 ∷ 2 ∷ 2 ∷ 0 ∷ 0 ∷ 0 ∷ 0 ∷ 1 ∷ 8 ∷ []) ∷ []) 0
    ≡ record { number = 0; pos = 0; size = 0; nodes = [] }
    ∷ record { number = 1; pos = 0; size = 12; nodes = Field 0 0 6 (2 ∷ 0 ∷ 0 ∷ 0 ∷ 0 ∷ 2 ∷ []) ∷ Field 1 6 6 (2 ∷ 0 ∷ 0 ∷ 0 ∷ 0 ∷ 1 ∷ []) ∷ Note Short 12 ∷ [] }
    ∷ record { number = 65535; pos = 12; size = 1; nodes = Field 0 12 1 (8 ∷ []) ∷ [] }
    ∷ []

-- ---- one table

-- an operation, a key and a value, at a second
abbrev pub at_second : ℕ → ℕ → ℕ → ℕ → Packet
at_second s o k v = captured 0 (s * SECOND) (o ∷ k ∷ v ∷ [])

-- the number of the block with which a protocol ends
abbrev pub block_at_end : List Node → Option ℕ
block_at_end [] = None
block_at_end (Field n pos size v ∷ ns) = block_at_end ns
block_at_end (Block' n pos size s body ∷ []) = Some n
block_at_end (Block' n pos size s body ∷ m ∷ ns) = block_at_end (m ∷ ns)
block_at_end (Note r pos ∷ ns) = block_at_end ns

abbrev pub ending : List Proto → Option ℕ
ending [] = None
ending (p ∷ []) = block_at_end p.nodes
ending (p ∷ q ∷ ps) = ending (q ∷ ps)

abbrev pub Gives : List Packet → ℕ → ℕ → Type 0
Gives ps k block = ending (tree_of table_db ps k) ≡ Some block

-- the named blocks by their numbers
abbrev pub hit : ℕ
hit = 0

abbrev pub miss : ℕ
miss = 1

-- a loop without end makes all turns that there are and leaves a note; nothing is left as payload
abbrev pub TurnsEnd : Type 0
TurnsEnd = tree_of table_db (at_second 0 8 0 0 ∷ []) 0
    ≡ record { number = 0; pos = 0; size = 0; nodes = [] }
    ∷ record { number = 1; pos = 0; size = 3; nodes = Field 0 0 1 (8 ∷ []) ∷ Field 1 1 1 (0 ∷ []) ∷ Field 2 2 1 (0 ∷ []) ∷ Note Turns 3 ∷ [] }
    ∷ []

-- `and` leaves its right side alone where the left decides, so the deadline isn't renewed
abbrev pub unrenewed : List Packet
unrenewed = at_second 10 3 1 0 ∷ at_second 14 7 1 0 ∷ at_second 15 4 1 0 ∷ []

pub record RightSideAlone : Type 0 where
  pub second : Gives unrenewed 1 miss
  pub nothing_asked : answers table_db unrenewed 1 ≡ []
  pub third : Gives unrenewed 2 miss

-- an entry lives up to its deadline, and not at it
abbrev pub at_deadline : List Packet
at_deadline = at_second 10 2 1 0 ∷ captured 1 14999999999 (4 ∷ 1 ∷ 0 ∷ []) ∷ at_second 15 4 1 0 ∷ []

pub record DeadlineIsEnd : Type 0 where
  pub before : Gives at_deadline 1 hit
  pub at : Gives at_deadline 2 miss

-- a full table drops the entry with the least deadline, and a new entry where no entry has one
abbrev pub filled_by : ℕ → List Packet
filled_by o = at_second 10 o 1 0 ∷ at_second 10 o 2 0 ∷ at_second 10 o 3 0 ∷ at_second 10 4 1 0 ∷ at_second 10 4 2 0 ∷ at_second 10 4 3 0 ∷ []

pub record FullTable : Type 0 where
  pub first_gone : Gives (filled_by 2) 3 miss
  pub second_there : Gives (filled_by 2) 4 hit
  pub third_there : Gives (filled_by 2) 5 hit
  pub first_kept : Gives (filled_by 1) 3 hit
  pub second_kept : Gives (filled_by 1) 4 hit
  pub third_dropped : Gives (filled_by 1) 5 miss

-- time may run backwards: nothing is removed because it passed
abbrev pub backwards : List Packet
backwards = at_second 10 2 1 0 ∷ at_second 10 4 1 0 ∷ at_second 20 4 1 0 ∷ at_second 10 4 1 0 ∷ []

pub record TimeRunsBackwards : Type 0 where
  pub now : Gives backwards 1 hit
  pub later : Gives backwards 2 miss
  pub again : Gives backwards 3 hit

-- a masked entry that adds an exact one on a hit, under the asked keys
abbrev pub masked_hits : List Packet
masked_hits = at_second 10 6 0xa1 0 ∷ at_second 10 5 0xa2 0 ∷ at_second 11 5 0xa2 0 ∷ at_second 11 5 0xa3 0 ∷ []

abbrev pub entry_until : ℕ → ℕ → Entry
entry_until k seconds = record { keys = (k ∷ []) ∷ []; masks = None; validity = UpdateOnHit; hit = 3; deadline = Some (seconds * SECOND); row = Buf (0 ∷ []) ∷ [] }

abbrev pub masked_left : Session
masked_left = record {
  exact = entry_until 0xa2 14 ∷ entry_until 0xa3 14 ∷ [];
  masked = record { keys = (0xa0 ∷ []) ∷ []; masks = Some ((0xf0 ∷ []) ∷ []); validity = AddOnHit; hit = 3; deadline = None; row = Buf (0 ∷ []) ∷ [] } ∷ [];
} ∷ []

pub record MaskedAddsOnHit : Type 0 where
  pub first : Gives masked_hits 1 hit
  pub second : Gives masked_hits 2 hit
  pub third : Gives masked_hits 3 hit
  pub left : state table_db (declared table_db) masked_hits 4 ≡ masked_left

-- ---- the first frame

abbrev pub FirstFrame : Type 0
FirstFrame = tree_of frame_db (captured 0 1000 (1 ∷ 2 ∷ 3 ∷ []) ∷ []) 0
    ≡ record { number = 0; pos = 0; size = 0; nodes = [] }
    ∷ record { number = 1; pos = 0; size = 2; nodes = Field 0 0 2 (1 ∷ 2 ∷ []) ∷ [] }
    ∷ record { number = 65535; pos = 2; size = 1; nodes = Field 0 2 1 (3 ∷ []) ∷ [] }
    ∷ []

-- ---- expressions

-- what an expression without names gives
abbrev pub gives : Expr → Result Value Reason
gives e = (play bare 0 (val bare [] e (start_env bare (captured 0 0 []))) []).result.0

abbrev pub one_and_six : Expr
one_and_six = expr.Binary op.Add (expr.Number 1) (expr.Binary op.Mul (expr.Number 2) (expr.Number 3))

pub record ExpressionsGive : Type 0 where
  pub sum : gives one_and_six ≡ Ok (Num 7)
  pub below_zero : gives (expr.Binary op.Sub (expr.Number 3) (expr.Number 5)) ≡ Err Range
  pub by_zero : gives (expr.Binary op.Mod (expr.Number 7) (expr.Number 0)) ≡ Err Zero
  pub slice : gives (expr.Slice (expr.Text (codes "abc")) (expr.Number 1) (expr.Number 2)) ≡ Ok (Buf (0x62 ∷ 0x63 ∷ []))
  pub slice_past : gives (expr.Slice (expr.Text (codes "abc")) (expr.Number 1) (expr.Number 3)) ≡ Err Slice
  pub to_number : gives (expr.ToNumber (expr.Text (1 ∷ 2 ∷ []))) ≡ Ok (Num 258)
  pub no_bytes : gives (expr.ToNumber (expr.Text [])) ≡ Err Size
  pub too_few_bytes : gives (expr.ToBytes (expr.Number 256) 1) ≡ Err Range
  pub both : gives (expr.And (expr.Binary op.Eq one_and_six (expr.Number 7)) (expr.Not (expr.Number 0))) ≡ Ok (Num 1)

-- ---- databases

pub record DatabasesAreJudged : Type 0 where
  pub sessions_shaped : is_shaped sessions_db ≡ true
  pub sessions_accepted : objection sessions_db ≡ None
  pub table_shaped : is_shaped table_db ≡ true
  pub table_accepted : objection table_db ≡ None
  pub frame_accepted : objection frame_db ≡ None
  pub unfollowed : objection unfollowed_db ≡ Some (record { line = 3; code = 44 })
  pub looping : objection looping_db ≡ Some (record { line = 3; code = 45 })
  pub no_start : objection empty_db ≡ Some (record { line = 1; code = 41 })

-- the size in int2buf is a part of the type: a number has 1 to 4 bytes
pub record SizesAreTyped : Type 0 where
  pub four : type_of empty_db [] (expr.ToBytes (expr.Number 1) 4) ≡ Ok ty.Buf
  pub five : type_of empty_db [] (expr.ToBytes (expr.Number 1) 5) ≡ Err Mistyped
  pub none : type_of empty_db [] (expr.ToBytes (expr.Number 1) 0) ≡ Err Mistyped
