-- What an element may name, known by name.
use Rattle.std.specs.Prelude.{◌≡◌, ℕ, Bool, List, map, slice_get, Option, Some}
use Rattle.db_model.specs.declared.element.FieldForm.{FieldForm}
use Rattle.db_model.specs.declared.element.UpdateKey.{UpdateKey}
use Rattle.db_model.specs.declared.element.UpdateValue.{UpdateValue}
use Rattle.db_model.specs.declared.expression.Expr.{Expr}
use Rattle.db_model.specs.declared.value.Ty.{Ty}
use Rattle.db_model.specs.NameFaults.{block_names}
use Rattle.db_model.specs.Names.{Text}
use Rattle.db_model.specs.NameIndex.{IsPlaces}
use Rattle.expr_type.specs.Scope.{IsScope}
use Rattle.db_check.specs.declared.around.Around.{Around}
use Rattle.db_check.specs.declared.own.Update.{Update}
use Rattle.db_check.specs.Own
use Rattle.db_model.specs.Folds.{ElementOf}
use Rattle.db_model.specs.Lines.{Lines}
use Rattle.db_check.specs.declared.kind.Kind.{Kind}

-- what is known is so, and the protocol is that of its number
pub record IsAround (a : Around) : Type 0 where
  pub scope_is : IsScope a.scope
  pub shows_are : IsPlaces (map (λ d. d.name) a.scope.database.now.show_templates) a.shows.now
  pub protocol_is : slice_get a.scope.database.now.protocols a.number ≡ Some a.protocol.now

-- the definitions of `Own`, of what is known there
module _ (a : Around) where
  abbrev pub fails : Kind → Option Ty → Expr → Bool
  fails = Own.fails a.scope.database.now a.scope.fields.now (block_names a.protocol.now)

  abbrev pub form_fails : Kind → FieldForm → Bool
  form_fails = Own.form_fails a.scope.database.now a.scope.fields.now (block_names a.protocol.now)

  abbrev pub lacks_template : Option Text → Bool
  lacks_template = Own.lacks_template a.scope.database.now a.scope.fields.now (block_names a.protocol.now)

  abbrev pub field_fails : Kind → FieldForm → Option Text → Bool
  field_fails = Own.field_fails a.scope.database.now a.scope.fields.now (block_names a.protocol.now)

  abbrev pub include_fails : Kind → Text → Bool
  include_fails = Own.include_fails a.scope.database.now a.scope.fields.now (block_names a.protocol.now)

  abbrev pub assign_fails : Kind → Text → Expr → Bool
  assign_fails = Own.assign_fails a.scope.database.now a.scope.fields.now (block_names a.protocol.now)

  -- an update itself, and the lines of its keys and values
  abbrev pub update_fails : Kind → Update → Bool
  update_fails k u = Own.update_fails a.scope.database.now a.scope.fields.now (block_names a.protocol.now) k u.table.now u.times.validity u.times.keep u.times.hit u.keys.now u.row.now

  abbrev pub update_lines : Kind → Update → Lines
  update_lines k u = Own.update_lines a.scope.database.now a.scope.fields.now (block_names a.protocol.now) k u.table.now u.keys.now u.row.now

  abbrev pub key_lines : Kind → UpdateKey → Lines
  key_lines = Own.key_lines a.scope.database.now a.scope.fields.now (block_names a.protocol.now)

  abbrev pub value_lines : Kind → Option Ty × UpdateValue → Lines
  value_lines = Own.value_lines a.scope.database.now a.scope.fields.now (block_names a.protocol.now)

  -- the lines of an element itself
  abbrev pub own_in : Kind → ElementOf Lines → Lines
  own_in = Own.own_of a.scope.database.now a.scope.fields.now (block_names a.protocol.now)
