-- The faults of expressions: a type that isn't the wanted one (42), and an update or a look-up that doesn't fit its table (47).
use Rattle.std.specs.Prelude.{ℕ, Bool, true, false, not, ◌||◌, ◌&&◌, ◌==◌, List, [], ◌∷◌, ◌++◌, length, slice_get, is_some, Option, Some, None, Result, Ok, Err}
use Rattle.std.specs.List.{list_any}
use Rattle.db_model.specs.declared.database.ColumnDecl.{ColumnDecl}
use Rattle.db_model.specs.declared.database.Database.{Database}
use Rattle.db_model.specs.declared.database.Protocol.{Protocol}
use Rattle.db_model.specs.declared.database.TableDecl.{TableDecl}
use Rattle.db_model.specs.declared.database.VarDecl.{VarDecl}
use Rattle.db_model.specs.declared.element.Element.TheOpen as layer
use Rattle.db_model.specs.declared.element.FieldForm.{FieldForm}
use Rattle.db_model.specs.declared.element.FieldForm.TheVariants as form
use Rattle.db_model.specs.declared.element.UpdateKey.{UpdateKey}
use Rattle.db_model.specs.declared.element.UpdateValue.{UpdateValue}
use Rattle.db_model.specs.declared.entry.Validity.{Validity}
use Rattle.db_model.specs.declared.entry.Validity.TheVariants.{Forever, MaxTime, UpdateOnHit, AddOnHit}
use Rattle.db_model.specs.declared.expression.Expr.{Expr}
use Rattle.db_model.specs.declared.expression.Literal.{Literal}
use Rattle.db_model.specs.declared.expression.Literal.TheVariants as literal
use Rattle.db_model.specs.declared.expression.TypeFault.{TypeFault}
use Rattle.db_model.specs.declared.expression.TypeFault.TheVariants.{Undeclared, Mistyped, Arity}
use Rattle.db_model.specs.declared.value.Ty.{Ty}
use Rattle.db_model.specs.declared.value.Ty.TheVariants.{Num, Buf, Proto}
use Rattle.db_model.specs.Expression.{key_sizes}
use Rattle.db_model.specs.Folds.{ElementOf}
use Rattle.db_model.specs.Lines.{Lines, over, at_line, lines_in}
use Rattle.db_model.specs.Names.{Text, variable_at, table_at}
use Rattle.db_model.specs.Numbering.{field_names}
use Rattle.db_model.specs.Typing.{same_ty, declared_ty, columns_in, has_keys, has_wrong_arity, type_of, is_protocol}

-- ---- types that aren't the wanted ones

-- a type is another than the wanted one; where none is wanted, each type will do
abbrev pub is_other : Option Ty → Ty → Bool
is_other None ty = false
is_other (Some wanted) ty = not (same_ty wanted ty)

abbrev pub isnt_wanted : Option Ty → Result Ty TypeFault → Bool
isnt_wanted wanted (Ok ty) = is_other wanted ty
isnt_wanted wanted (Err Undeclared) = false
isnt_wanted wanted (Err Mistyped) = true
isnt_wanted wanted (Err Arity) = false

-- the type that a data value of an update has to have: its column's, and any where there is no such column
abbrev pub column_wants : List ColumnDecl → List UpdateValue → List (Option Ty × UpdateValue)
column_wants cs [] = []
column_wants [] (v ∷ vs) = (None, v) ∷ column_wants [] vs
column_wants (c ∷ cs) (v ∷ vs) = (Some c.ty, v) ∷ column_wants cs vs

module _ (db : Database) (fields : List Text) where
  abbrev pub is_wrong : Option Ty → Expr → Bool
  is_wrong wanted e = isnt_wanted wanted (type_of db fields e)

  abbrev pub form_is_wrong : FieldForm → Bool
  form_is_wrong (form.Fixed size) = false
  form_is_wrong (form.Bit size mask) = false
  form_is_wrong (form.Variable e) = is_wrong (Some Num) e
  form_is_wrong (form.TokenEnded token) = false
  form_is_wrong form.Line = false
  form_is_wrong (form.Padding align) = false

  abbrev pub own_42 : ElementOf Lines → Lines
  own_42 (layer.Field line name f longname show) = at_line line (form_is_wrong f)
  own_42 (layer.Block line name longname body) = []
  own_42 (layer.IncludeBlock line name) = []
  own_42 (layer.Loop line k e body) = at_line line (is_wrong (Some Num) e)
  own_42 (layer.LoopCtrl line c) = []
  own_42 (layer.Switch line e cases other) = at_line line (is_wrong (Some Num) e)
  own_42 (layer.If line e true_line so other) = at_line line (is_wrong (Some Num) e)
  own_42 (layer.Assign line name e) = at_line line (is_wrong (declared_ty (slice_get db.variables (variable_at db name))) e)
  own_42 (layer.Update line table validity keep hit keys row) = over (λ (k : UpdateKey). at_line k.line (is_wrong (Some Buf) k.value)) keys ++ over (λ (w : Option Ty × UpdateValue). at_line w.1.line (is_wrong w.0 w.1.value)) (column_wants (columns_in (slice_get db.tables (table_at db table))) row)
  own_42 (layer.NextProto line e) = at_line line (is_wrong (Some Proto) e)

-- a variable's literal has another type than the variable; one that isn't declared has none
abbrev pub literal_is_wrong : Database → Ty → Literal → Bool
literal_is_wrong db ty (literal.Number n) = not (same_ty ty Num)
literal_is_wrong db ty (literal.Text b) = not (same_ty ty Buf)
literal_is_wrong db ty (literal.Protocol name) = is_protocol db name && not (same_ty ty Proto)

-- fault 42: an expression with no undeclared name and no wrong number of keys, whose type isn't the wanted one
unfoldable pub fault_42 : Database → Lines
fault_42 db =
    over (λ (v : VarDecl). at_line v.line (literal_is_wrong db v.ty v.value)) db.variables
    ++ over (λ (p : Protocol). lines_in (own_42 db (field_names p)) p) db.protocols

-- ---- updates and look-ups that don't fit their table

-- the times that each kind of entry wants: whether keep stands, whether hit stands, whether a key has a mask
abbrev pub misses_times : Validity → Bool → Bool → Bool → Bool
misses_times Forever keep hit mask = keep || hit
misses_times MaxTime keep hit mask = not keep || hit
misses_times UpdateOnHit keep hit mask = not (keep && hit)
misses_times AddOnHit keep hit mask = keep || (not hit || not mask)

-- a mask has another length than its key
abbrev pub other_length : ℕ → Option (List ℕ) → Bool
other_length size None = false
other_length size (Some mask) = not (length mask == size)

abbrev pub masks_differ : List ℕ → List UpdateKey → Bool
masks_differ [] ks = false
masks_differ (size ∷ sizes) [] = false
masks_differ (size ∷ sizes) (k ∷ ks) = other_length size k.mask || masks_differ sizes ks

abbrev pub other_columns : Option TableDecl → ℕ → Bool
other_columns None n = false
other_columns (Some d) n = not (length d.columns == n)

abbrev pub form_misses : Database → FieldForm → Bool
form_misses db (form.Fixed size) = false
form_misses db (form.Bit size mask) = false
form_misses db (form.Variable e) = has_wrong_arity db e
form_misses db (form.TokenEnded token) = false
form_misses db form.Line = false
form_misses db (form.Padding align) = false

abbrev pub update_misses : Option TableDecl → Validity → Option ℕ → Option ℕ → List UpdateKey → List UpdateValue → Bool
update_misses d validity keep hit keys row =
    not (has_keys d (length keys)) || (other_columns d (length row) || (masks_differ (key_sizes d) keys || misses_times validity (is_some keep) (is_some hit) (list_any (λ (k : UpdateKey). is_some k.mask) keys)))

abbrev pub own_47 : Database → ElementOf Lines → Lines
own_47 db (layer.Field line name f longname show) = at_line line (form_misses db f)
own_47 db (layer.Block line name longname body) = []
own_47 db (layer.IncludeBlock line name) = []
own_47 db (layer.Loop line k e body) = at_line line (has_wrong_arity db e)
own_47 db (layer.LoopCtrl line c) = []
own_47 db (layer.Switch line e cases other) = at_line line (has_wrong_arity db e)
own_47 db (layer.If line e true_line so other) = at_line line (has_wrong_arity db e)
own_47 db (layer.Assign line name e) = at_line line (has_wrong_arity db e)
own_47 db (layer.Update line table validity keep hit keys row) =
    at_line line (update_misses (slice_get db.tables (table_at db table)) validity keep hit keys row)
    ++ (over (λ (k : UpdateKey). at_line k.line (has_wrong_arity db k.value)) keys ++ over (λ (v : UpdateValue). at_line v.line (has_wrong_arity db v.value)) row)
own_47 db (layer.NextProto line e) = at_line line (has_wrong_arity db e)

-- fault 47: an update or a look-up that doesn't fit its table
unfoldable pub fault_47 : Database → Lines
fault_47 db = over (λ (p : Protocol). lines_in (own_47 db) p) db.protocols
