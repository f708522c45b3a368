-- The code of an expression of each form, from the codes of its parts.
use Rattle.std.specs.Prelude.{◌≡◌, ℕ, Bool, List, map, slice_get, Result, IfOk}
use Rattle.std.proofs.Common.{sym, ap, subst, ◌∙◌}
use Rattle.db_model.specs.declared.database.Database.{Database}
use Rattle.db_model.specs.declared.expression.Expr as expr
use Rattle.db_model.specs.declared.expression.Expr.{Expr}
use Rattle.db_model.specs.declared.expression.Operator.{Operator}
use Rattle.db_model.specs.declared.no_memory.NoMemory.{NoMemory}
use Rattle.db_model.specs.Names.{Text, protocol_at, table_at, column_at}
use Rattle.db_model.specs.Special.{special}
use Rattle.db_model.proofs.Layers.{fold_number, fold_text, fold_protocol, fold_field, fold_variable, fold_column, fold_is_present, fold_not, fold_and, fold_or, fold_binary, fold_slice, fold_to_number, fold_length_of, fold_to_bytes, fold_has_text, fold_look_up}
use Rattle.expr_code.specs.declared.code.ExprCode as code
use Rattle.expr_code.specs.declared.code.ExprCode.{ExprCode}
use Rattle.expr_code.specs.Code.{numbers_of, variable_code, look_up_code, code_step, code_of}

module _ (db : Database) (fields : List Text) where
  pub number_code : (n : ℕ) → code_of db fields (expr.Number n) ≡ code.Number n
  unfolding code_of
  number_code n = fold_number ExprCode (code_step db fields) n

  pub text_code : (b : List ℕ) → code_of db fields (expr.Text b) ≡ code.Text b
  unfolding code_of
  text_code b = fold_text ExprCode (code_step db fields) b

  pub protocol_code : (name : Text) → code_of db fields (expr.Protocol name) ≡ code.Protocol (protocol_at db name)
  unfolding code_of
  protocol_code name = fold_protocol ExprCode (code_step db fields) name

  pub field_code : (name : Text) → code_of db fields (expr.Field name) ≡ code.Field (numbers_of fields name)
  unfolding code_of
  field_code name = fold_field ExprCode (code_step db fields) name

  pub variable_is : (name : Text) → code_of db fields (expr.Variable name) ≡ variable_code db (special name) name
  unfolding code_of
  variable_is name = fold_variable ExprCode (code_step db fields) name

  pub column_is : (table column : Text) → code_of db fields (expr.Column table column) ≡ code.Column (table_at db table) (column_at (slice_get db.tables (table_at db table)) column)
  unfolding code_of
  column_is table column = fold_column ExprCode (code_step db fields) table column

  pub is_present_code : (name : Text) → code_of db fields (expr.IsPresent name) ≡ code.IsPresent (numbers_of fields name)
  unfolding code_of
  is_present_code name = fold_is_present ExprCode (code_step db fields) name

  pub not_code : (a : Expr) → code_of db fields (expr.Not a) ≡ code.Not (code_of db fields a)
  unfolding code_of
  not_code a = fold_not ExprCode (code_step db fields) a

  pub and_code : (a b : Expr) → code_of db fields (expr.And a b) ≡ code.And (code_of db fields a) (code_of db fields b)
  unfolding code_of
  and_code a b = fold_and ExprCode (code_step db fields) a b

  pub or_code : (a b : Expr) → code_of db fields (expr.Or a b) ≡ code.Or (code_of db fields a) (code_of db fields b)
  unfolding code_of
  or_code a b = fold_or ExprCode (code_step db fields) a b

  pub binary_code : (o : Operator) (a b : Expr) → code_of db fields (expr.Binary o a b) ≡ code.Binary o (code_of db fields a) (code_of db fields b)
  unfolding code_of
  binary_code o a b = fold_binary ExprCode (code_step db fields) o a b

  pub slice_code : (a b c : Expr) → code_of db fields (expr.Slice a b c) ≡ code.Slice (code_of db fields a) (code_of db fields b) (code_of db fields c)
  unfolding code_of
  slice_code a b c = fold_slice ExprCode (code_step db fields) a b c

  pub to_number_code : (a : Expr) → code_of db fields (expr.ToNumber a) ≡ code.ToNumber (code_of db fields a)
  unfolding code_of
  to_number_code a = fold_to_number ExprCode (code_step db fields) a

  pub length_code : (a : Expr) → code_of db fields (expr.LengthOf a) ≡ code.LengthOf (code_of db fields a)
  unfolding code_of
  length_code a = fold_length_of ExprCode (code_step db fields) a

  pub to_bytes_code : (a : Expr) (size : ℕ) → code_of db fields (expr.ToBytes a size) ≡ code.ToBytes (code_of db fields a) size
  unfolding code_of
  to_bytes_code a size = fold_to_bytes ExprCode (code_step db fields) a size

  pub has_text_code : (a : Expr) (text : List ℕ) → code_of db fields (expr.HasText a text) ≡ code.HasText (code_of db fields a) text
  unfolding code_of
  has_text_code a text = fold_has_text ExprCode (code_step db fields) a text

  pub look_up_is : (table : Text) (renew : Bool) (keys : List Expr) → code_of db fields (expr.LookUp table renew keys) ≡ look_up_code (slice_get db.tables (table_at db table)) (table_at db table) renew (map (code_of db fields) keys)
  unfolding code_of
  look_up_is table renew keys = fold_look_up ExprCode (code_step db fields) table renew keys

  -- the code of an expression that is of a form, by the code of the form
  pub told : (e x : Expr) (v r : ExprCode) → e ≡ x → code_of db fields x ≡ v → r ≡ v → r ≡ code_of db fields e
  told e x v r h k p = p ∙ sym (ap (code_of db fields) h ∙ k)

  pub told_if : (e x : Expr) (v : ExprCode) (r : Result ExprCode NoMemory) → e ≡ x → code_of db fields x ≡ v → IfOk r (λ c. c ≡ v) → IfOk r (λ c. c ≡ code_of db fields e)
  told_if e x v r h k p = subst (λ (w : ExprCode). IfOk r (λ c. c ≡ w)) (sym (ap (code_of db fields) h ∙ k)) p
