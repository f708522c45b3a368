-- What an element without faults means, one line for each kind. A meaning is total: where an element has a fault, it means something too, which is never read.
use Rattle.std.specs.Prelude.{ℕ, if◌then◌else◌, List, [], ◌∷◌, ◌++◌, bytes_eq, unwrap_or, Option, Some, None}
use Rattle.db_model.specs.declared.element.Branch.{Branch}
use Rattle.db_model.specs.declared.element.Case.{Case}
use Rattle.db_model.specs.declared.element.Element as element
use Rattle.db_model.specs.declared.element.Element.{Element}
use Rattle.db_model.specs.declared.element.FieldForm.{FieldForm}
use Rattle.db_model.specs.declared.element.FieldForm.TheVariants as form
use Rattle.db_model.specs.declared.element.UpdateKey.{UpdateKey}
use Rattle.db_model.specs.declared.element.UpdateValue.{UpdateValue}
use Rattle.db_model.specs.declared.expression.Expr.{Expr}
use Rattle.db_model.specs.Names.{Text}
use Rattle.db_text.specs.declared.node.Attribute.{Attribute}
use Rattle.db_text.specs.declared.node.Node.{Node, Node-F, out-Node, map-Node}
use Rattle.db_text.specs.declared.node.Node.TheFolds.{fold-Node}
use Rattle.db_load.specs.declared.kind.Kind.{Kind}
use Rattle.db_load.specs.declared.kind.Kind.TheVariants as kind
use Rattle.db_load.specs.declared.kind.ListKind.{ListKind}
use Rattle.db_load.specs.declared.rule.Child.{Child}
use Rattle.db_load.specs.declared.word.Word.{Word}
use Rattle.db_load.specs.declared.word.Word.TheVariants as word
use Rattle.db_load.specs.Faults.{value_of, row_of}
use Rattle.db_load.specs.Rules.{children}
use Rattle.db_load.specs.Values.{name_by, optional_name_by, variable_name_by, text_by, optional_number_by, number_by, mask_by, expr_by, token_by, is_word, loop_kind_by, loop_control_by, validity_by}
use Rattle.db_load.specs.Words.{spelled}

-- an element as the one around it sees it
pub record Meant : Type 0 where
  pub name : Text
  pub line : ℕ
  pub attributes : List Attribute
  pub element : Kind → Element
  pub body : Kind → List Element

-- the value of an attribute
abbrev pub at : List Attribute → Word → Option Text
at attributes w = value_of attributes (spelled w)

-- an item, where there is one
abbrev pub items_of : {A : Type 0} → Option A → List A
items_of None = []
items_of (Some a) = a ∷ []

-- an element that stands under a row
abbrev pub placed : Option Child → Meant → List Element
placed None m = []
placed (Some row) m = m.element row.kind ∷ []

-- a list of elements
abbrev pub list_by : List Child → List Meant → List Element
list_by rows [] = []
list_by rows (m ∷ ms) = placed (row_of rows m.name) m ++ list_by rows ms

-- the elements of a name, in order, each as what it means
abbrev pub named : {A : Type 0} → Word → (Meant → A) → List Meant → List A
named w f [] = []
named w f (m ∷ ms) = if bytes_eq m.name (spelled w) then f m ∷ named w f ms else named w f ms

-- the first one of a name
abbrev pub first_named : {A : Type 0} → Word → (Meant → A) → List Meant → Option A
first_named w f [] = None
first_named w f (m ∷ ms) = if bytes_eq m.name (spelled w) then Some (f m) else first_named w f ms

-- ---- fields

abbrev pub form_by : List Attribute → FieldForm
form_by a =
    if is_word (at a word.Type) word.Fixed then form.Fixed (number_by (at a word.Size))
    else (if is_word (at a word.Type) word.Bit then form.Bit (number_by (at a word.Size)) (number_by (at a word.Mask))
    else (if is_word (at a word.Type) word.Variable then form.Variable (expr_by (at a word.Expr))
    else (if is_word (at a word.Type) word.TokenEnded then form.TokenEnded (token_by (at a word.Token))
    else (if is_word (at a word.Type) word.Padding then form.Padding (number_by (at a word.Align))
    else form.Line))))

-- ---- what stands in switches, conditions and updates

abbrev pub case_by : ListKind → Meant → Case
case_by l m = record { line = m.line; value = number_by (at m.attributes word.Value); maxvalue = unwrap_or (optional_number_by (at m.attributes word.MaxValue)) (number_by (at m.attributes word.Value)); body = m.body (kind.Case l) }

abbrev pub branch_from : ℕ → List Element → Branch
branch_from line body = record { line = line; body = body }

abbrev pub branch_by : ListKind → Meant → Branch
branch_by l m = branch_from m.line (m.body (kind.Branch l))

abbrev pub key_by : Meant → UpdateKey
key_by m = record { line = m.line; value = expr_by (at m.attributes word.Value); mask = mask_by (at m.attributes word.Mask) }

abbrev pub value_by : Meant → UpdateValue
value_by m = record { line = m.line; value = expr_by (at m.attributes word.Value) }

-- a condition of its branches
abbrev pub condition : ℕ → Expr → Option Branch → Option Branch → Element
condition line e None other = element.If line e 0 [] other
condition line e (Some b) other = element.If line e b.line b.body other

-- ---- elements

abbrev pub field_by : Node-F Meant → Element
field_by x = element.Field x.line (name_by (at x.attributes word.Name)) (form_by x.attributes) (text_by (at x.attributes word.LongName)) (optional_name_by (at x.attributes word.Show))

abbrev pub block_by : Kind → Node-F Meant → Element
block_by k x = element.Block x.line (name_by (at x.attributes word.Name)) (text_by (at x.attributes word.LongName)) (list_by (children k) x.children)

abbrev pub include_by : Node-F Meant → Element
include_by x = element.IncludeBlock x.line (name_by (at x.attributes word.Name))

abbrev pub loop_by : Node-F Meant → Element
loop_by x = element.Loop x.line (loop_kind_by (at x.attributes word.Type)) (expr_by (at x.attributes word.Expr)) (list_by (children kind.Loop) x.children)

abbrev pub control_by : Node-F Meant → Element
control_by x = element.LoopCtrl x.line (loop_control_by (at x.attributes word.Type))

abbrev pub switch_by : ListKind → Node-F Meant → Element
switch_by l x = element.Switch x.line (expr_by (at x.attributes word.Expr)) (named word.Case (case_by l) x.children) (first_named word.Default (branch_by l) x.children)

abbrev pub condition_by : ListKind → Node-F Meant → Element
condition_by l x = condition x.line (expr_by (at x.attributes word.Expr)) (first_named word.IfTrue (branch_by l) x.children) (first_named word.IfFalse (branch_by l) x.children)

abbrev pub assign_by : Node-F Meant → Element
assign_by x = element.Assign x.line (variable_name_by (at x.attributes word.Name)) (expr_by (at x.attributes word.Value))

abbrev pub update_by : Node-F Meant → Element
update_by x = element.Update x.line (name_by (at x.attributes word.Table)) (validity_by (at x.attributes word.Validity)) (optional_number_by (at x.attributes word.KeepTime)) (optional_number_by (at x.attributes word.HitTime)) (named word.Key key_by x.children) (named word.Data value_by x.children)

abbrev pub next_by : Node-F Meant → Element
next_by x = element.NextProto x.line (expr_by (at x.attributes word.Proto))

abbrev pub element_by : Node-F Meant → Kind → Element
element_by x kind.Field = field_by x
element_by x (kind.Block l) = block_by (kind.Block l) x
element_by x kind.Loop = loop_by x
element_by x (kind.LoopCtrl l) = control_by x
element_by x (kind.Switch l) = switch_by l x
element_by x (kind.If l) = condition_by l x
element_by x kind.Assign = assign_by x
element_by x kind.Update = update_by x
element_by x kind.NextProto = next_by x
element_by x _ = include_by x

abbrev pub meant_step : Node-F Meant → Meant
meant_step x = record { name = x.name; line = x.line; attributes = x.attributes; element = element_by x; body = λ k. list_by (children k) x.children }

unfoldable pub meant : Node → Meant
meant = fold-Node Meant meant_step

-- one layer of it
abbrev pub layer : Node → Node-F Meant
layer n = map-Node Node Meant meant (out-Node n)
