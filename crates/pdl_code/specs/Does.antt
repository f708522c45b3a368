-- What operations do: from a place in the code of a protocol to the end of the list in which it stands, they do a run.
use Rattle.std.specs.Prelude.{◌≡◌, ℕ, ◌+◌, if◌then◌else◌, List, [], length, map, slice_get, slice_set, unwrap_or, Option, Some, None}
use Rattle.db_model.specs.declared.database.Database.{Database}
use Rattle.db_model.specs.declared.database.Protocol.{Protocol}
use Rattle.db_model.specs.declared.database.TableDecl.{TableDecl}
use Rattle.db_model.specs.declared.element.LoopKind.{LoopKind}
use Rattle.db_model.specs.declared.element.LoopKind.TheVariants as kind
use Rattle.db_model.specs.declared.env.Way.TheVariants.{Next, Chose}
use Rattle.db_model.specs.declared.field_kind.FieldKind.TheVariants.{Variable}
use Rattle.db_model.specs.declared.question.Answer.{Answer}
use Rattle.db_model.specs.declared.question.Answer.TheVariants.{Done}
use Rattle.db_model.specs.declared.question.Question.TheVariants.{Add}
use Rattle.db_model.specs.declared.value.Value.{Value}
use Rattle.db_model.specs.Chain.{elements_of}
use Rattle.db_model.specs.Elements.{masks_of, row_from, control_by, list}
use Rattle.db_model.specs.Expression.{Eval, give, ◌>>=◌, num, proto, is_so, keys_from, key_sizes, asks}
use Rattle.db_model.specs.Numbering.{none}
use Rattle.db_model.specs.Questions.{Gives, ◌then◌}
use Rattle.db_model.specs.Runs.{Run, next, leave, go, evaluated, place_field, block, count, looped, before_limit, under_limit}
use Rattle.encap.specs.Choice.{first_holding}
use Rattle.expr_code.specs.Meaning.{code_val}
use Rattle.expr_code.specs.declared.code.ExprCode.{ExprCode}
use Rattle.pdl_code.specs.declared.code.BlockStart.{BlockStart}
use Rattle.pdl_code.specs.declared.code.Choice.{Choice}
use Rattle.pdl_code.specs.declared.code.Code.{Code}
use Rattle.pdl_code.specs.declared.code.Op.{Op}
use Rattle.pdl_code.specs.declared.code.Op.TheVariants.{End, Field, SizedField, Assign, Update, NextProto, Leave, Jump, Test, Switch, Block, Include, Loop}
use Rattle.pdl_code.specs.declared.code.ProtoCode.{ProtoCode}
use Rattle.pdl_code.specs.declared.code.UpdateCode.{UpdateCode}

-- ---- how far jumps go

-- a test skips so many operations where its value is 0
abbrev pub unless_so : ℕ → ℕ → ℕ
unless_so v to = if is_so v then 0 else to

-- the target at the place of a range; the other one where there is none
abbrev pub target_at : List ℕ → ℕ → Option ℕ → ℕ
target_at targets otherwise None = otherwise
target_at targets otherwise (Some k) = unwrap_or (slice_get targets k) otherwise

-- a switch skips to the target of the first range that holds its value
abbrev pub target : Choice → ℕ → ℕ
target c v = target_at c.targets c.otherwise (first_holding v c.ranges)

-- ---- operations

-- the operations that go on behind themselves
abbrev pub IsPlain : Op → Type 0
IsPlain End = ⊥
IsPlain (Field n kind) = Unit {0}
IsPlain (SizedField n size) = Unit {0}
IsPlain (Assign n value) = Unit {0}
IsPlain (Update u) = Unit {0}
IsPlain (NextProto value) = Unit {0}
IsPlain (Leave kind) = Unit {0}
IsPlain (Jump to) = ⊥
IsPlain (Test value to) = ⊥
IsPlain (Switch value choice) = ⊥
IsPlain (Block n after) = ⊥
IsPlain (Include b) = ⊥
IsPlain (Loop kind value after) = ⊥

abbrev pub set_variable : ℕ → Value → Run
set_variable n v = λ z. Gives ((Next, []), record z { env = record z.env { vars = slice_set z.env.vars n v } })

module _ (db : Database) where
  -- a code as a number
  abbrev pub number : ExprCode → Eval ℕ
  number c = code_val db c >>= (λ v. give (num v))

  -- the keys, then the row, then one question. An update of a table that isn't declared does nothing
  abbrev pub added : Option TableDecl → UpdateCode → Eval Answer
  added None u = give Done
  added (Some d) u =
      keys_from [] (key_sizes (Some d)) (map (λ k. code_val db k.value) u.keys) >>= (λ ks.
      row_from (length db.protocols) [] d.columns (map (code_val db) u.row) >>= (λ vs.
      asks (Add u.table (record { keys = ks; masks = masks_of (key_sizes (Some d)) (map (λ k. k.mask) u.keys); validity = u.validity; keep = unwrap_or u.keep 0; hit = unwrap_or u.hit 0; row = vs }))))

  abbrev pub next_proto : ExprCode → Run
  next_proto c = evaluated (code_val db c) (λ v. leave (Chose (proto v)))

  -- a loop with this body
  abbrev pub loop_by : LoopKind → ExprCode → Run → Run
  loop_by kind.Size c body = evaluated (number c) (λ n. under_limit n (looped before_limit body))
  loop_by kind.Count c body = evaluated (number c) (λ n. count n body)
  loop_by kind.While c body = looped (number c) body

  -- what each of these does; the others have no run of their own
  abbrev pub act : Op → Run
  act End = next
  act (Field n kind) = place_field kind n 0
  act (SizedField n size) = evaluated (number size) (place_field Variable n)
  act (Assign n value) = evaluated (code_val db value) (set_variable n)
  act (Update u) = evaluated (added (slice_get db.tables u.table) u) (λ a. next)
  act (NextProto value) = next_proto value
  act (Leave kind) = control_by kind
  act (Jump to) = next
  act (Test value to) = next
  act (Switch value choice) = next
  act (Block n after) = next
  act (Include b) = next
  act (Loop kind value after) = next

  module _ (code : ProtoCode) where
    -- from a place to the end of its list the operations do this run
    pub data Does : (pc : ℕ) (r : Run) → Type 0 where
      over : (pc : ℕ) → slice_get code.ops pc ≡ Some End → Does pc next
      plain : (pc : ℕ) (o : Op) (r : Run) → slice_get code.ops pc ≡ Some o → IsPlain o → Does (pc + 1 + 0) r → Does pc (act o then go r)
      jumps : (pc to : ℕ) (r : Run) → slice_get code.ops pc ≡ Some (Jump to) → Does (pc + 1 + to) r → Does pc r
      tests : (pc : ℕ) (value : ExprCode) (to : ℕ) (rs : ℕ → Run) → slice_get code.ops pc ≡ Some (Test value to) → ((v : ℕ) → Does (pc + 1 + unless_so v to) (rs v)) → Does pc (evaluated (number value) rs)
      switches : (pc : ℕ) (value : ExprCode) (choice : Choice) (rs : ℕ → Run) → slice_get code.ops pc ≡ Some (Switch value choice) → ((v : ℕ) → Does (pc + 1 + target choice v) (rs v)) → Does pc (evaluated (number value) rs)
      blocks : (pc n after : ℕ) (body r : Run) → slice_get code.ops pc ≡ Some (Block n after) → Does (pc + 1 + 0) body → Does (pc + 1 + after) r → Does pc (block n body then go r)
      includes : (pc b : ℕ) (start : BlockStart) (body r : Run) → slice_get code.ops pc ≡ Some (Include b) → slice_get code.blocks b ≡ Some start → Does start.at body → Does (pc + 1 + 0) r → Does pc (block start.number body then go r)
      loops : (pc : ℕ) (kind : LoopKind) (value : ExprCode) (after : ℕ) (body r : Run) → slice_get code.ops pc ≡ Some (Loop kind value after) → Does (pc + 1 + 0) body → Does (pc + 1 + after) r → Does pc (loop_by kind value body then go r)

-- ---- the code of a database

-- the code of a protocol does from its first operation what the protocol's elements do
pub record HasCode (db : Database) (p : Protocol) (found : Option ProtoCode) : Type 0 where
  pub code : ProtoCode
  pub stands : found ≡ Some code
  pub does : Does db code 0 (list db p (elements_of p) none)

-- each protocol has its code, at its number
abbrev pub IsCodeOf : Database → Code → Type 0
IsCodeOf db code = (q : ℕ) (p : Protocol) → slice_get db.protocols q ≡ Some p → HasCode db p (slice_get code.protocols q)
