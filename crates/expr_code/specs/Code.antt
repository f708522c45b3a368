-- The code of an expression: each name is replaced by the number of what it means in a database and in a protocol's fields.
use Rattle.std.specs.Prelude.{ℕ, zero, suc, Bool, if◌then◌else◌, List, [], ◌∷◌, slice_get, bytes_eq, Option, Some, None}
use Rattle.db_model.specs.declared.database.Database.{Database}
use Rattle.db_model.specs.declared.database.TableDecl.{TableDecl}
use Rattle.db_model.specs.declared.expression.Expr.{Expr, Expr-F}
use Rattle.db_model.specs.declared.expression.Expr.TheOpen as layer
use Rattle.db_model.specs.Folds.{fold_expr}
use Rattle.db_model.specs.Names.{Text, protocol_at, variable_at, table_at, column_at}
use Rattle.db_model.specs.declared.expression.Special.{Special}
use Rattle.db_model.specs.Special.{special}
use Rattle.expr_code.specs.declared.code.ExprCode as code
use Rattle.expr_code.specs.declared.code.ExprCode.{ExprCode}

-- the numbers of the fields of this name, where the first of them has number n
abbrev pub numbers_from : ℕ → Text → List Text → List ℕ
numbers_from n name [] = []
numbers_from n name (f ∷ fields) = if bytes_eq name f then n ∷ numbers_from (suc n) name fields else numbers_from (suc n) name fields

abbrev pub numbers_of : List Text → Text → List ℕ
numbers_of fields name = numbers_from zero name fields

-- a special variable, or the declared one of the name
abbrev pub variable_code : Database → Option Special → Text → ExprCode
variable_code db None name = code.Variable (variable_at db name)
variable_code db (Some s) name = code.Special s

-- a table that isn't declared has nothing to hit, and then no key is asked
abbrev pub look_up_code : Option TableDecl → ℕ → Bool → List ExprCode → ExprCode
look_up_code None n renew ks = code.Number 0
look_up_code (Some d) n renew ks = code.LookUp n renew ks

module _ (db : Database) (fields : List Text) where
  -- one layer of an expression, with the codes of its parts
  abbrev pub code_step : Expr-F ExprCode → ExprCode
  code_step (layer.Number n) = code.Number n
  code_step (layer.Text b) = code.Text b
  code_step (layer.Protocol name) = code.Protocol (protocol_at db name)
  code_step (layer.Field name) = code.Field (numbers_of fields name)
  code_step (layer.Variable name) = variable_code db (special name) name
  code_step (layer.Column table column) = code.Column (table_at db table) (column_at (slice_get db.tables (table_at db table)) column)
  code_step (layer.Not a) = code.Not a
  code_step (layer.And a b) = code.And a b
  code_step (layer.Or a b) = code.Or a b
  code_step (layer.Binary o a b) = code.Binary o a b
  code_step (layer.Slice b from count) = code.Slice b from count
  code_step (layer.ToNumber b) = code.ToNumber b
  code_step (layer.LengthOf b) = code.LengthOf b
  code_step (layer.ToBytes a size) = code.ToBytes a size
  code_step (layer.HasText b text) = code.HasText b text
  code_step (layer.IsPresent name) = code.IsPresent (numbers_of fields name)
  code_step (layer.LookUp table renew ks) = look_up_code (slice_get db.tables (table_at db table)) (table_at db table) renew ks

  -- the code of an expression
  unfoldable pub code_of : Expr → ExprCode
  code_of = fold_expr ExprCode code_step
