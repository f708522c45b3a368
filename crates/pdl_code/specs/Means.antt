-- What the operation at a place says of the run from there: `Does` read from the operation on.
use Rattle.std.specs.Prelude.{◌≡◌, ℕ, ◌+◌, slice_get, Some}
use Rattle.db_model.specs.declared.database.Database.{Database}
use Rattle.db_model.specs.declared.element.LoopKind.{LoopKind}
use Rattle.db_model.specs.Questions.{◌then◌}
use Rattle.db_model.specs.Runs.{Run, next, go, evaluated, block}
use Rattle.expr_code.specs.declared.code.ExprCode.{ExprCode}
use Rattle.pdl_code.specs.declared.code.BlockStart.{BlockStart}
use Rattle.pdl_code.specs.declared.code.Choice.{Choice}
use Rattle.pdl_code.specs.declared.code.Op.{Op}
use Rattle.pdl_code.specs.declared.code.Op.TheVariants.{End, Field, SizedField, Assign, Update, NextProto, Leave, Jump, Test, Switch, Block, Include, Loop}
use Rattle.pdl_code.specs.declared.code.ProtoCode.{ProtoCode}
use Rattle.pdl_code.specs.Does.{unless_so, target, number, loop_by, act, Does}

module _ (db : Database) (code : ProtoCode) where
  -- it does its own run, and then what stands behind it
  pub record DoesPlain (o : Op) (pc : ℕ) (r : Run) : Type 0 where
    pub rest : Run
    pub at_rest : Does db code (pc + 1 + 0) rest
    pub is : r ≡ act db o then go rest

  -- it does what stands at the place that its value chooses
  pub record DoesTest (value : ExprCode) (to pc : ℕ) (r : Run) : Type 0 where
    pub rests : ℕ → Run
    pub at_rest : (v : ℕ) → Does db code (pc + 1 + unless_so v to) (rests v)
    pub is : r ≡ evaluated (number db value) rests

  pub record DoesSwitch (value : ExprCode) (choice : Choice) (pc : ℕ) (r : Run) : Type 0 where
    pub rests : ℕ → Run
    pub at_rest : (v : ℕ) → Does db code (pc + 1 + target choice v) (rests v)
    pub is : r ≡ evaluated (number db value) rests

  -- it runs a body in a block, and then what stands behind that
  pub record DoesBlock (n after pc : ℕ) (r : Run) : Type 0 where
    pub body : Run
    pub rest : Run
    pub at_body : Does db code (pc + 1 + 0) body
    pub at_rest : Does db code (pc + 1 + after) rest
    pub is : r ≡ block n body then go rest

  pub record DoesInclude (b pc : ℕ) (r : Run) : Type 0 where
    pub start : BlockStart
    pub stands : slice_get code.blocks b ≡ Some start
    pub body : Run
    pub rest : Run
    pub at_body : Does db code start.at body
    pub at_rest : Does db code (pc + 1 + 0) rest
    pub is : r ≡ block start.number body then go rest

  -- it runs a body in a loop, and then what stands behind that
  pub record DoesLoop (kind : LoopKind) (value : ExprCode) (after pc : ℕ) (r : Run) : Type 0 where
    pub body : Run
    pub rest : Run
    pub at_body : Does db code (pc + 1 + 0) body
    pub at_rest : Does db code (pc + 1 + after) rest
    pub is : r ≡ loop_by db kind value body then go rest

  abbrev pub Means : Op → ℕ → Run → Type 0
  Means End pc r = r ≡ next
  Means (Field n kind) pc r = DoesPlain (Field n kind) pc r
  Means (SizedField n size) pc r = DoesPlain (SizedField n size) pc r
  Means (Assign n value) pc r = DoesPlain (Assign n value) pc r
  Means (Update u) pc r = DoesPlain (Update u) pc r
  Means (NextProto value) pc r = DoesPlain (NextProto value) pc r
  Means (Leave kind) pc r = DoesPlain (Leave kind) pc r
  Means (Jump to) pc r = Does db code (pc + 1 + to) r
  Means (Test value to) pc r = DoesTest value to pc r
  Means (Switch value choice) pc r = DoesSwitch value choice pc r
  Means (Block n after) pc r = DoesBlock n after pc r
  Means (Include b) pc r = DoesInclude b pc r
  Means (Loop kind value after) pc r = DoesLoop kind value after pc r
