-- The four kinds of fault of an element itself, in one form: what fails of its expressions, its numbers and its names.
use Rattle.std.specs.Prelude.{ℕ, Bool, false, not, ◌||◌, nat_lt, List, [], ◌++◌, map, slice_get, Option, Some}
use Rattle.db_cause.specs.declared.cause.Cause.{Cause}
use Rattle.db_cause.specs.declared.cause.Cause.TheVariants as cause
use Rattle.db_model.specs.declared.database.Database.{Database}
use Rattle.db_model.specs.declared.element.Case.{Case}
use Rattle.db_model.specs.declared.element.Element.TheOpen as layer
use Rattle.db_model.specs.declared.element.FieldForm.{FieldForm}
use Rattle.db_model.specs.declared.element.FieldForm.TheVariants as form
use Rattle.db_model.specs.declared.element.UpdateKey.{UpdateKey}
use Rattle.db_model.specs.declared.element.UpdateValue.{UpdateValue}
use Rattle.db_model.specs.declared.entry.Validity.{Validity}
use Rattle.db_model.specs.declared.expression.Expr.{Expr}
use Rattle.db_model.specs.declared.value.Ty.{Ty}
use Rattle.db_model.specs.declared.value.Ty.TheVariants.{Num, Buf, Proto}
use Rattle.db_check.specs.declared.kind.Kind.{Kind}
use Rattle.db_check.specs.declared.kind.Kind.TheVariants as kind
use Rattle.db_model.specs.Folds.{CaseOf, ElementOf}
use Rattle.db_model.specs.Forms.{if_there}
use Rattle.db_model.specs.Lines.{Lines, over, at_line}
use Rattle.db_model.specs.NameFaults.{is_template}
use Rattle.db_model.specs.Names.{Text, variable_at, table_at}
use Rattle.db_model.specs.NumberFaults.{form_is_outside, is_zero}
use Rattle.db_model.specs.Special.{special_names}
use Rattle.db_model.specs.TypeFaults.{isnt_wanted, column_wants, update_misses}
use Rattle.db_model.specs.Typing.{is_among, is_table, has_undeclared, has_wrong_arity, type_of, declared_ty, columns_in}

-- what a fault of this kind is
abbrev pub cause_of : Kind → Cause
cause_of kind.Names = cause.Undeclared
cause_of kind.Types = cause.WrongType
cause_of kind.Numbers = cause.OutOfLimits
cause_of kind.Tables = cause.TableMisfit

-- the numbers of a case
abbrev pub case_fails : Kind → ℕ → ℕ → Bool
case_fails kind.Names low high = false
case_fails kind.Types low high = false
case_fails kind.Numbers low high = nat_lt high low
case_fails kind.Tables low high = false

abbrev pub case_lines : Kind → Case → Lines
case_lines k c = at_line c.line (case_fails k c.value c.maxvalue)

module _ (db : Database) (fields blocks : List Text) where
  -- an expression whose type has to be the wanted one
  abbrev pub fails : Kind → Option Ty → Expr → Bool
  fails kind.Names wanted e = has_undeclared db fields e
  fails kind.Types wanted e = isnt_wanted wanted (type_of db fields e)
  fails kind.Numbers wanted e = false
  fails kind.Tables wanted e = has_wrong_arity db e

  -- the expression of a field
  abbrev pub form_fails : Kind → FieldForm → Bool
  form_fails k (form.Fixed size) = false
  form_fails k (form.Bit size mask) = false
  form_fails k (form.Variable e) = fails k (Some Num) e
  form_fails k (form.TokenEnded token) = false
  form_fails k form.Line = false
  form_fails k (form.Padding align) = false

  abbrev pub lacks_template : Option Text → Bool
  lacks_template show = not (if_there (is_template db fields blocks) show)

  abbrev pub field_fails : Kind → FieldForm → Option Text → Bool
  field_fails kind.Names f show = form_fails kind.Names f || lacks_template show
  field_fails kind.Types f show = form_fails kind.Types f
  field_fails kind.Numbers f show = form_is_outside f
  field_fails kind.Tables f show = form_fails kind.Tables f

  abbrev pub include_fails : Kind → Text → Bool
  include_fails kind.Names name = not (is_among name blocks)
  include_fails kind.Types name = false
  include_fails kind.Numbers name = false
  include_fails kind.Tables name = false

  abbrev pub assign_fails : Kind → Text → Expr → Bool
  assign_fails kind.Names name e = fails kind.Names (Some Num) e || (is_among name special_names || not (is_among name (map (λ d. d.name) db.variables)))
  assign_fails kind.Types name e = fails kind.Types (declared_ty (slice_get db.variables (variable_at db name))) e
  assign_fails kind.Numbers name e = false
  assign_fails kind.Tables name e = fails kind.Tables (Some Num) e

  abbrev pub update_fails : Kind → Text → Validity → Option ℕ → Option ℕ → List UpdateKey → List UpdateValue → Bool
  update_fails kind.Names table validity keep hit keys row = not (is_table db table)
  update_fails kind.Types table validity keep hit keys row = false
  update_fails kind.Numbers table validity keep hit keys row = is_zero keep || is_zero hit
  update_fails kind.Tables table validity keep hit keys row = update_misses (slice_get db.tables (table_at db table)) validity keep hit keys row

  abbrev pub key_lines : Kind → UpdateKey → Lines
  key_lines k key = at_line key.line (fails k (Some Buf) key.value)

  abbrev pub value_lines : Kind → Option Ty × UpdateValue → Lines
  value_lines k w = at_line w.1.line (fails k w.0 w.1.value)

  abbrev pub update_lines : Kind → Text → List UpdateKey → List UpdateValue → Lines
  update_lines k table keys row = over (key_lines k) keys ++ over (value_lines k) (column_wants (columns_in (slice_get db.tables (table_at db table))) row)

  abbrev pub own_of : Kind → ElementOf Lines → Lines
  own_of k (layer.Field line name f longname show) = at_line line (field_fails k f show)
  own_of k (layer.Block line name longname body) = []
  own_of k (layer.IncludeBlock line name) = at_line line (include_fails k name)
  own_of k (layer.Loop line l e body) = at_line line (fails k (Some Num) e)
  own_of k (layer.LoopCtrl line c) = []
  own_of k (layer.Switch line e cases other) = at_line line (fails k (Some Num) e) ++ over (λ (c : CaseOf Lines). at_line c.line (case_fails k c.value c.maxvalue)) cases
  own_of k (layer.If line e true_line so other) = at_line line (fails k (Some Num) e)
  own_of k (layer.Assign line name e) = at_line line (assign_fails k name e)
  own_of k (layer.Update line table validity keep hit keys row) = at_line line (update_fails k table validity keep hit keys row) ++ update_lines k table keys row
  own_of k (layer.NextProto line e) = at_line line (fails k (Some Proto) e)
