-- The type of an expression in a protocol, or why it has none.
use Rattle.std.specs.Prelude.{ℕ, Bool, true, false, not, ◌&&◌, ◌||◌, if◌then◌else◌, ◌==◌, List, [], map, length, slice_get, bytes_eq, Option, Some, None, Result, Ok, Err}
use Rattle.std.specs.List.{list_any, list_all}
use Rattle.db_model.specs.declared.database.ColumnDecl.{ColumnDecl}
use Rattle.db_model.specs.declared.database.Database.{Database}
use Rattle.db_model.specs.declared.database.TableDecl.{TableDecl}
use Rattle.db_model.specs.declared.database.VarDecl.{VarDecl}
use Rattle.db_model.specs.declared.expression.Expr.{Expr, Expr-F}
use Rattle.db_model.specs.declared.expression.Expr.TheOpen as layer
use Rattle.db_model.specs.declared.expression.Operator.{Operator}
use Rattle.db_model.specs.declared.expression.Operator.TheVariants as op
use Rattle.db_model.specs.declared.expression.TypeFault.{TypeFault}
use Rattle.db_model.specs.declared.expression.TypeFault.TheVariants.{Undeclared, Mistyped, Arity}
use Rattle.db_model.specs.declared.value.Ty.{Ty}
use Rattle.db_model.specs.declared.value.Ty.TheVariants.{Num, Buf, Proto}
use Rattle.db_model.specs.declared.limits.TheConstants.{MOST_NUMBER_BYTES}
use Rattle.db_model.specs.Folds.{fold_expr}
use Rattle.db_model.specs.Forms.{is_between}
use Rattle.db_model.specs.Names.{Text, variable_at, table_at, column_at}
use Rattle.db_model.specs.Special.{Special, Packet, PacketLength, CurrentOffset, ProtoOffset, LinkType, special}

-- a name is one of those
abbrev pub is_among : Text → List Text → Bool
is_among name names = list_any (bytes_eq name) names

abbrev pub column_names : Option TableDecl → List Text
column_names None = []
column_names (Some d) = map (λ c. c.name) d.columns

abbrev pub is_special : Option Special → Bool
is_special None = false
is_special (Some s) = true

-- a variable is declared or special
abbrev pub is_variable : Database → Text → Bool
is_variable db name = is_special (special name) || is_among name (map (λ d. d.name) db.variables)

abbrev pub is_table : Database → Text → Bool
is_table db name = is_among name (map (λ d. d.name) db.tables)

abbrev pub is_protocol : Database → Text → Bool
is_protocol db name = is_among name (map (λ d. d.name) db.protocols)

-- ---- names that aren't declared

abbrev pub some_of : List Bool → Bool
some_of bs = list_any (λ b. b) bs

module _ (db : Database) (fields : List Text) where
  abbrev pub undeclared_step : Expr-F Bool → Bool
  undeclared_step (layer.Number n) = false
  undeclared_step (layer.Text b) = false
  undeclared_step (layer.Protocol name) = not (is_protocol db name)
  undeclared_step (layer.Field name) = not (is_among name fields)
  undeclared_step (layer.Variable name) = not (is_variable db name)
  undeclared_step (layer.Column table column) = not (is_table db table && is_among column (column_names (slice_get db.tables (table_at db table))))
  undeclared_step (layer.Not a) = a
  undeclared_step (layer.And a b) = a || b
  undeclared_step (layer.Or a b) = a || b
  undeclared_step (layer.Binary o a b) = a || b
  undeclared_step (layer.Slice a b c) = a || (b || c)
  undeclared_step (layer.ToNumber a) = a
  undeclared_step (layer.LengthOf a) = a
  undeclared_step (layer.ToBytes a size) = a
  undeclared_step (layer.HasText a text) = a
  undeclared_step (layer.IsPresent name) = not (is_among name fields)
  undeclared_step (layer.LookUp table renew ks) = not (is_table db table) || some_of ks

  -- whether an expression names something that isn't declared
  abbrev pub has_undeclared : Expr → Bool
  has_undeclared = fold_expr Bool undeclared_step

-- ---- look-ups with a wrong number of keys

abbrev pub has_keys : Option TableDecl → ℕ → Bool
has_keys None n = true
has_keys (Some d) n = length d.keys == n

module _ (db : Database) where
  abbrev pub arity_step : Expr-F Bool → Bool
  arity_step (layer.Number n) = false
  arity_step (layer.Text b) = false
  arity_step (layer.Protocol name) = false
  arity_step (layer.Field name) = false
  arity_step (layer.Variable name) = false
  arity_step (layer.Column table column) = false
  arity_step (layer.Not a) = a
  arity_step (layer.And a b) = a || b
  arity_step (layer.Or a b) = a || b
  arity_step (layer.Binary o a b) = a || b
  arity_step (layer.Slice a b c) = a || (b || c)
  arity_step (layer.ToNumber a) = a
  arity_step (layer.LengthOf a) = a
  arity_step (layer.ToBytes a size) = a
  arity_step (layer.HasText a text) = a
  arity_step (layer.IsPresent name) = false
  arity_step (layer.LookUp table renew ks) = not (has_keys (slice_get db.tables (table_at db table)) (length ks)) || some_of ks

  -- whether an expression has a look-up with a wrong number of keys
  abbrev pub has_wrong_arity : Expr → Bool
  has_wrong_arity = fold_expr Bool arity_step

-- ---- types

abbrev pub same_ty : Ty → Ty → Bool
same_ty Num Num = true
same_ty Num Buf = false
same_ty Num Proto = false
same_ty Buf Num = false
same_ty Buf Buf = true
same_ty Buf Proto = false
same_ty Proto Num = false
same_ty Proto Buf = false
same_ty Proto Proto = true

abbrev pub is_of : Ty → Option Ty → Bool
is_of ty None = false
is_of ty (Some other) = same_ty ty other

-- the type, where the parts have theirs
abbrev pub typed_if : Bool → Ty → Option Ty
typed_if true ty = Some ty
typed_if false ty = None

abbrev pub alike : Option Ty → Option Ty → Bool
alike None b = false
alike (Some a) b = is_of a b

abbrev pub operator_ty : Operator → Option Ty → Option Ty → Option Ty
operator_ty op.Add a b = typed_if (is_of Num a && is_of Num b) Num
operator_ty op.Sub a b = typed_if (is_of Num a && is_of Num b) Num
operator_ty op.Mul a b = typed_if (is_of Num a && is_of Num b) Num
operator_ty op.Div a b = typed_if (is_of Num a && is_of Num b) Num
operator_ty op.Mod a b = typed_if (is_of Num a && is_of Num b) Num
operator_ty op.BitAnd a b = typed_if (is_of Num a && is_of Num b) Num
operator_ty op.BitOr a b = typed_if (is_of Num a && is_of Num b) Num
operator_ty op.Lt a b = typed_if (is_of Num a && is_of Num b) Num
operator_ty op.Le a b = typed_if (is_of Num a && is_of Num b) Num
operator_ty op.Gt a b = typed_if (is_of Num a && is_of Num b) Num
operator_ty op.Ge a b = typed_if (is_of Num a && is_of Num b) Num
operator_ty op.Eq a b = typed_if (alike a b) Num
operator_ty op.Ne a b = typed_if (alike a b) Num

abbrev pub special_ty : Special → Ty
special_ty Packet = Buf
special_ty PacketLength = Num
special_ty CurrentOffset = Num
special_ty ProtoOffset = Num
special_ty LinkType = Num

abbrev pub declared_ty : Option VarDecl → Option Ty
declared_ty None = None
declared_ty (Some d) = Some d.ty

abbrev pub column_ty : Option ColumnDecl → Option Ty
column_ty None = None
column_ty (Some c) = Some c.ty

abbrev pub columns_in : Option TableDecl → List ColumnDecl
columns_in None = []
columns_in (Some d) = d.columns

module _ (db : Database) where
  abbrev pub variable_ty : Option Special → Text → Option Ty
  variable_ty None name = declared_ty (slice_get db.variables (variable_at db name))
  variable_ty (Some s) name = Some (special_ty s)

  abbrev pub ty_step : Expr-F (Option Ty) → Option Ty
  ty_step (layer.Number n) = Some Num
  ty_step (layer.Text b) = Some Buf
  ty_step (layer.Protocol name) = Some Proto
  ty_step (layer.Field name) = Some Buf
  ty_step (layer.Variable name) = variable_ty (special name) name
  ty_step (layer.Column table column) = let d = slice_get db.tables (table_at db table) in column_ty (slice_get (columns_in d) (column_at d column))
  ty_step (layer.Not a) = typed_if (is_of Num a) Num
  ty_step (layer.And a b) = typed_if (is_of Num a && is_of Num b) Num
  ty_step (layer.Or a b) = typed_if (is_of Num a && is_of Num b) Num
  ty_step (layer.Binary o a b) = operator_ty o a b
  ty_step (layer.Slice a b c) = typed_if (is_of Buf a && (is_of Num b && is_of Num c)) Buf
  ty_step (layer.ToNumber a) = typed_if (is_of Buf a) Num
  ty_step (layer.LengthOf a) = typed_if (is_of Buf a) Num
  ty_step (layer.ToBytes a size) = typed_if (is_of Num a && is_between 1 MOST_NUMBER_BYTES size) Buf
  ty_step (layer.HasText a text) = typed_if (is_of Buf a) Num
  ty_step (layer.IsPresent name) = Some Num
  ty_step (layer.LookUp table renew ks) = typed_if (list_all (is_of Buf) ks) Num

  -- the type of an expression whose names are declared
  abbrev pub ty_of : Expr → Option Ty
  ty_of = fold_expr (Option Ty) ty_step

abbrev pub or_mistyped : Option Ty → Result Ty TypeFault
or_mistyped None = Err Mistyped
or_mistyped (Some ty) = Ok ty

-- the type; else a name that isn't declared, then a look-up with a wrong number of keys, then types that don't fit
unfoldable pub type_of : Database → List Text → Expr → Result Ty TypeFault
type_of db fields e = if has_undeclared db fields e then Err Undeclared else (if has_wrong_arity db e then Err Arity else or_mistyped (ty_of db e))
