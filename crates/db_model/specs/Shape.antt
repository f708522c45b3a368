-- A shaped database: its elements stand where they may, in number and order; its values and expressions have their forms; and each loopctrl stands in a loop. How deep elements stand is no part of it.
use Rattle.std.specs.Prelude.{ℕ, Bool, true, false, not, ◌&&◌, nat_le, List, [], ◌∷◌, length, is_some, Option, Some, None}
use Rattle.std.specs.List.{list_all}
use Rattle.db_model.specs.declared.database.ColumnDecl.{ColumnDecl}
use Rattle.db_model.specs.declared.database.Database.{Database}
use Rattle.db_model.specs.declared.database.ElementList.{ElementList}
use Rattle.db_model.specs.declared.database.ExecuteCode.{ExecuteCode}
use Rattle.db_model.specs.declared.database.Format.{Format}
use Rattle.db_model.specs.declared.database.NamedBlock.{NamedBlock}
use Rattle.db_model.specs.declared.database.Protocol.{Protocol}
use Rattle.db_model.specs.declared.database.ShowTemplate.{ShowTemplate}
use Rattle.db_model.specs.declared.database.SumItem.{SumItem}
use Rattle.db_model.specs.declared.database.SumItem.TheVariants as item
use Rattle.db_model.specs.declared.database.SumStruct.{SumStruct}
use Rattle.db_model.specs.declared.database.SumTemplate.{SumTemplate}
use Rattle.db_model.specs.declared.database.TableDecl.{TableDecl}
use Rattle.db_model.specs.declared.database.VarDecl.{VarDecl}
use Rattle.db_model.specs.declared.element.Element.{Element}
use Rattle.db_model.specs.declared.element.Element.TheOpen as layer
use Rattle.db_model.specs.declared.element.FieldForm.{FieldForm}
use Rattle.db_model.specs.declared.element.FieldForm.TheVariants as form
use Rattle.db_model.specs.declared.element.UpdateKey.{UpdateKey}
use Rattle.db_model.specs.declared.element.UpdateValue.{UpdateValue}
use Rattle.db_model.specs.declared.expression.Literal.{Literal}
use Rattle.db_model.specs.declared.expression.Literal.TheVariants as literal
use Rattle.db_model.specs.declared.limits.TheConstants.{MOST_KEYS, MOST_COLUMNS, MOST_SECTIONS, MOST_SEPARATOR}
use Rattle.db_model.specs.declared.value.Ty.{Ty}
use Rattle.db_model.specs.declared.value.Ty.TheVariants as ty
use Rattle.db_model.specs.Folds.{CaseOf, BranchOf, ElementOf, fold_element}
use Rattle.db_model.specs.Forms.{is_between, is_number, is_text, if_there, is_expression}
use Rattle.db_model.specs.Name.{is_name}

-- the three kinds of list
pub data ListKind : Type 0 where
  FieldList : ListKind
  CodeList : ListKind
  EncapList : ListKind

abbrev pub is_field_list : ListKind → Bool
is_field_list FieldList = true
is_field_list CodeList = false
is_field_list EncapList = false

abbrev pub is_encap_list : ListKind → Bool
is_encap_list FieldList = false
is_encap_list CodeList = false
is_encap_list EncapList = true

-- whether an element may stand in a list of this kind, inside a loop or not
abbrev pub Stands : Type 0
Stands = ListKind → Bool → Bool

abbrev pub all_stand : List Stands → Stands
all_stand [] kind looped = true
all_stand (x ∷ xs) kind looped = x kind looped && all_stand xs kind looped

abbrev pub cases_stand : List (CaseOf Stands) → Stands
cases_stand [] kind looped = true
cases_stand (c ∷ cs) kind looped = all_stand c.body kind looped && cases_stand cs kind looped

abbrev pub branch_stands : Option (BranchOf Stands) → Stands
branch_stands None kind looped = true
branch_stands (Some b) kind looped = all_stand b.body kind looped

abbrev pub has_form : FieldForm → Bool
has_form (form.Fixed size) = true
has_form (form.Bit size mask) = true
has_form (form.Variable e) = is_expression e
has_form (form.TokenEnded token) = true
has_form form.Line = true
has_form (form.Padding align) = true

abbrev pub key_is_shaped : UpdateKey → Bool
key_is_shaped k = is_expression k.value && if_there (λ (m : List ℕ). nat_le 1 (length m)) k.mask

abbrev pub value_is_shaped : UpdateValue → Bool
value_is_shaped v = is_expression v.value

abbrev pub stands_step : ElementOf Stands → Stands
stands_step (layer.Field line name f longname show) kind looped = is_field_list kind && (is_name name && (has_form f && (if_there is_text longname && if_there is_name show)))
stands_step (layer.Block line name longname body) kind looped = is_field_list kind && (is_name name && (if_there is_text longname && all_stand body kind looped))
stands_step (layer.IncludeBlock line name) kind looped = is_field_list kind && is_name name
stands_step (layer.Loop line k e body) kind looped = is_field_list kind && (is_expression e && all_stand body kind true)
stands_step (layer.LoopCtrl line c) kind looped = is_field_list kind && looped
stands_step (layer.Switch line e cases other) kind looped = is_expression e && (cases_stand cases kind looped && branch_stands other kind looped)
stands_step (layer.If line e true_line so other) kind looped = is_expression e && (all_stand so kind looped && branch_stands other kind looped)
stands_step (layer.Assign line name e) kind looped = not (is_encap_list kind) && (is_name name && is_expression e)
stands_step (layer.Update line table validity keep hit keys row) kind looped = not (is_encap_list kind) && (is_name table && ((if_there is_number keep && if_there is_number hit) && (list_all key_is_shaped keys && list_all value_is_shaped row)))
stands_step (layer.NextProto line e) kind looped = is_encap_list kind && is_expression e

abbrev pub stands : Element → Stands
stands = fold_element Stands stands_step

-- a list of this kind, inside no loop
abbrev pub is_list : ListKind → List Element → Bool
is_list kind xs = list_all (λ x. stands x kind false) xs

abbrev pub is_list_of : ListKind → Option ElementList → Bool
is_list_of kind l = if_there (λ (l : ElementList). is_list kind l.elements) l

-- ---- declarations

abbrev pub literal_is_shaped : Literal → Bool
literal_is_shaped (literal.Number n) = true
literal_is_shaped (literal.Text b) = true
literal_is_shaped (literal.Protocol name) = is_name name

abbrev pub variable_is_shaped : VarDecl → Bool
variable_is_shaped v = is_name v.name && literal_is_shaped v.value

-- a size stands exactly where the type is buf
abbrev pub size_by : Ty → Option ℕ → Bool
size_by ty.Num s = not (is_some s)
size_by ty.Buf s = is_some s
size_by ty.Proto s = not (is_some s)

abbrev pub column_is_shaped : ColumnDecl → Bool
column_is_shaped c = is_name c.name && size_by c.ty c.size

abbrev pub table_is_shaped : TableDecl → Bool
table_is_shaped t = is_name t.name && (is_between 1 MOST_KEYS (length t.keys) && (nat_le (length t.columns) MOST_COLUMNS && (list_all (λ k. is_name k.name) t.keys && list_all column_is_shaped t.columns)))

abbrev pub template_is_shaped : ShowTemplate → Bool
template_is_shaped t = is_name t.name && (is_text t.separator && nat_le (length t.separator) MOST_SEPARATOR)

-- the name of a section is a text that isn't empty
abbrev pub is_section : List ℕ → Bool
is_section name = nat_le 1 (length name) && is_text name

abbrev pub sections_are_shaped : SumStruct → Bool
sections_are_shaped s = is_between 1 MOST_SECTIONS (length s.sections) && list_all (λ d. is_section d.name) s.sections

abbrev pub item_is_shaped : SumItem → Bool
item_is_shaped (item.Section line name) = is_section name
item_is_shaped (item.Text line value) = is_text value
item_is_shaped (item.ProtoField line name) = is_name name
item_is_shaped (item.PacketHdr line value) = true

abbrev pub sum_is_shaped : SumTemplate → Bool
sum_is_shaped t = is_name t.name && list_all item_is_shaped t.items

abbrev pub block_is_shaped : NamedBlock → Bool
block_is_shaped b = is_name b.name && (if_there is_text b.longname && is_list FieldList b.body)

abbrev pub code_is_shaped : ExecuteCode → Bool
code_is_shaped c = is_list_of CodeList c.before && is_list_of CodeList c.after

abbrev pub format_is_shaped : Format → Bool
format_is_shaped f = is_list_of FieldList f.fields && list_all block_is_shaped f.blocks

abbrev pub protocol_is_shaped : Protocol → Bool
protocol_is_shaped p = is_name p.name && (if_there is_text p.longname && (if_there is_name p.showsum && (if_there code_is_shaped p.execute_code && (if_there format_is_shaped p.format && is_list_of EncapList p.encapsulation))))

abbrev pub texts_are_shaped : Database → Bool
texts_are_shaped db = if_there is_text db.name && (if_there is_text db.version && (if_there is_text db.creator && if_there is_text db.date))

unfoldable pub is_shaped : Database → Bool
is_shaped db = texts_are_shaped db && (list_all variable_is_shaped db.variables && (list_all table_is_shaped db.tables && (list_all template_is_shaped db.show_templates && (if_there sections_are_shaped db.sum_struct && (list_all sum_is_shaped db.sum_templates && list_all protocol_is_shaped db.protocols)))))
