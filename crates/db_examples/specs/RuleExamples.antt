-- Worked examples, each of one rule that is easily got wrong.
use Rattle.std.specs.Prelude.{◌≡◌, ℕ, zero, suc, false, List, [], ◌∷◌, ◌++◌, codes, None, Err}
use Rattle.db_model.specs.declared.database.Protocol.{Protocol}
use Rattle.db_model.specs.declared.env.Env.{Env}
use Rattle.db_model.specs.declared.env.Frame.{Frame}
use Rattle.db_model.specs.declared.env.Way.TheVariants.{Stop}
use Rattle.db_model.specs.declared.expression.Expr as expr
use Rattle.db_model.specs.declared.expression.Expr.{Expr}
use Rattle.db_model.specs.declared.packet.Packet.{Packet}
use Rattle.db_model.specs.declared.question.Answer.TheVariants.{Hit}
use Rattle.db_model.specs.declared.tree.Node.TheVariants.{Field, Block, Note}
use Rattle.db_model.specs.declared.tree.Proto.{Proto}
use Rattle.db_model.specs.declared.tree.Reason.TheVariants.{Short, Nodes, Protocols, KeySize}
use Rattle.db_model.specs.declared.value.Value.TheVariants.{Buf}
use Rattle.db_model.specs.Decoding.{start_env, start}
use Rattle.db_model.specs.Elements.{list}
use Rattle.db_examples.specs.Examples.{answers, tree_of, at_second, Gives, hit, miss, entry_until}
use Rattle.db_model.specs.Expression.{val}
use Rattle.db_model.specs.Numbering.{none}
use Rattle.db_model.specs.Questions.{play}
use Rattle.db_examples.specs.RuleSamples.{broken_loop_db, short_block_db, block_db, block_with_field, self_db, zeros}
use Rattle.db_examples.specs.Samples.{protocol, fields}
use Rattle.db_model.specs.Serial.{state}
use Rattle.db_model.specs.Session.{declared}
use Rattle.db_examples.specs.SessionPackets.{captured}
use Rattle.db_examples.specs.TableSample.{table_db}

-- ---- tables

-- a renewal changes the deadline and leaves the entry in its place
abbrev pub renewals : List Packet
renewals = at_second 10 3 1 0 ∷ at_second 10 3 2 0 ∷ at_second 11 5 1 0 ∷ []

abbrev pub RenewalKeepsPlace : Type 0
RenewalKeepsPlace = state table_db (declared table_db) renewals 3 ≡ record { exact = entry_until 1 14 ∷ entry_until 2 15 ∷ []; masked = [] } ∷ []

-- an addition to a full part removes the entry with the least deadline, and not the first one that is dead
abbrev pub additions : List Packet
additions = at_second 12 2 1 0 ∷ at_second 10 2 2 0 ∷ at_second 20 2 3 0 ∷ at_second 10 4 1 0 ∷ at_second 10 4 2 0 ∷ at_second 10 4 3 0 ∷ []

pub record LeastDeadlineGoes : Type 0 where
  pub first : Gives additions 3 hit
  pub second : Gives additions 4 miss
  pub third : Gives additions 5 hit

-- where there is room, nothing is removed, dead or not
abbrev pub with_room : List Packet
with_room = at_second 10 2 1 0 ∷ at_second 20 2 2 0 ∷ at_second 10 4 1 0 ∷ []

abbrev pub RoomKeepsAll : Type 0
RoomKeepsAll = Gives with_room 2 hit

-- the exact entry answers before a masked one that matches too
abbrev pub exact_and_masked : List Packet
exact_and_masked = at_second 10 6 0xa1 7 ∷ at_second 10 1 0xa2 9 ∷ at_second 10 4 0xa2 0 ∷ at_second 10 4 0xa3 0 ∷ []

pub record ExactFirst : Type 0 where
  pub exact : answers table_db exact_and_masked 2 ≡ Hit (Buf (9 ∷ []) ∷ []) ∷ []
  pub masked : answers table_db exact_and_masked 3 ≡ Hit (Buf (7 ∷ []) ∷ []) ∷ []

-- ---- questions and budgets

-- a key of a wrong size is found before a question is spent
abbrev pub wrong_key : Expr
wrong_key = expr.LookUp (codes "t") false (expr.Text (1 ∷ 2 ∷ []) ∷ [])

abbrev pub no_questions : Env
no_questions = record (start_env table_db (captured 0 0 [])) { questions = 0 }

abbrev pub KeyBeforeQuestion : Type 0
KeyBeforeQuestion = (play table_db 0 (val table_db [] wrong_key no_questions) (declared table_db)).result ≡ (Err KeySize, no_questions)

-- a block takes its node before its body runs
abbrev pub one_node : Frame
one_node = record (start block_db (captured 0 0 (5 ∷ []))) { nodes = 1 }

abbrev pub block_protocol : Protocol
block_protocol = protocol 2 (codes "startproto") None (fields 2 block_with_field []) None

abbrev pub BlockBeforeBody : Type 0
BlockBeforeBody = (play block_db 0 (list block_db block_protocol block_with_field none one_node) []).result.0 ≡ (Stop Nodes, Block 0 0 0 (Note Nodes 0 ∷ []) ∷ [])

-- ---- elements

-- a break out of a size loop sets the old limit again
abbrev pub BreakRestoresLimit : Type 0
BreakRestoresLimit = tree_of broken_loop_db (captured 0 0 (1 ∷ 2 ∷ 3 ∷ 4 ∷ []) ∷ []) 0
    ≡ record { number = 0; pos = 0; size = 4; nodes = Field 0 0 1 (1 ∷ []) ∷ Field 1 1 3 (2 ∷ 3 ∷ 4 ∷ []) ∷ [] } ∷ []

-- a note is the last node of the innermost block
abbrev pub NoteIsInnermost : Type 0
NoteIsInnermost = tree_of short_block_db (captured 0 0 (1 ∷ 2 ∷ []) ∷ []) 0
    ≡ record { number = 0; pos = 0; size = 1; nodes = Field 0 0 1 (1 ∷ []) ∷ Block 0 1 0 (Block 1 1 0 (Note Short 1 ∷ []) ∷ []) ∷ [] }
    ∷ record { number = 65535; pos = 1; size = 1; nodes = Field 0 1 1 (2 ∷ []) ∷ [] }
    ∷ []

-- ---- the chain

-- so many protocols of one byte each, from a position on
abbrev pub ones : ℕ → ℕ → List Proto
ones at zero = []
ones at (suc n) = record { number = 0; pos = at; size = 1; nodes = Field 0 at 1 (0 ∷ []) ∷ [] } ∷ ones (suc at) n

-- where no byte is left the chain ends, also at the last protocol that may be entered; where one is left, that protocol has a note
pub record EndBeforeProtocols : Type 0 where
  pub ends : tree_of self_db (captured 0 0 (zeros 32) ∷ []) 0 ≡ ones 0 32
  pub noted : tree_of self_db (captured 0 0 (zeros 33) ∷ []) 0
      ≡ ones 0 31 ++ (record { number = 0; pos = 31; size = 1; nodes = Field 0 31 1 (0 ∷ []) ∷ Note Protocols 32 ∷ [] }
      ∷ record { number = 65535; pos = 32; size = 1; nodes = Field 0 32 1 (0 ∷ []) ∷ [] }
      ∷ [])
