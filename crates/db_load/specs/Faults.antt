-- The faults of shape: which stand at an element, by what it is where it stands and how many levels may still stand in it. Of all faults of a text the least line is answered, and on that line the least code.
use Rattle.std.specs.Prelude.{ℕ, ◌+◌, ◌-◌, Bool, true, false, not, ◌||◌, ◌&&◌, ◌==◌, nat_lt, nat_le, if◌then◌else◌, List, [], ◌∷◌, ◌++◌, map, bytes_eq, Option, Some, None}
use Rattle.db_cause.specs.declared.cause.Cause.{Cause}
use Rattle.db_cause.specs.declared.cause.Cause.TheVariants as cause
use Rattle.db_cause.specs.Codes.{code}
use Rattle.db_model.specs.declared.fault.Fault.{Fault}
use Rattle.db_model.specs.LeastFault.{least}
use Rattle.db_model.specs.Names.{Text}
use Rattle.db_text.specs.declared.node.Attribute.{Attribute}
use Rattle.db_text.specs.declared.node.Node.{Node, Node-F, out-Node}
use Rattle.db_text.specs.declared.node.Node.TheFolds.{fold-Node}
use Rattle.db_load.specs.declared.kind.Kind.{Kind}
use Rattle.db_load.specs.declared.kind.Kind.TheVariants as kind
use Rattle.db_load.specs.declared.kind.ListKind.TheVariants as list
use Rattle.db_load.specs.declared.rule.Child.{Child}
use Rattle.db_load.specs.declared.rule.Form.{Form}
use Rattle.db_load.specs.declared.rule.Form.TheVariants as form
use Rattle.db_load.specs.declared.rule.Need.{Need}
use Rattle.db_load.specs.declared.rule.Need.TheVariants as need
use Rattle.db_load.specs.declared.rule.Rule.{Rule}
use Rattle.db_load.specs.declared.word.Word.TheVariants as word
use Rattle.db_load.specs.Forms.{has_form, is_parsed}
use Rattle.db_load.specs.Rules.{rules, children, is_ordered}
use Rattle.db_load.specs.Words.{spelled}

-- ---- attributes

-- the value of the first attribute of a name
abbrev pub value_of : List Attribute → Text → Option Text
value_of [] name = None
value_of (a ∷ more) name = if bytes_eq a.name name then Some a.value else value_of more name

-- whether one has this name
abbrev pub has_attribute : List Attribute → Text → Bool
has_attribute [] name = false
has_attribute (a ∷ more) name = if bytes_eq a.name name then true else has_attribute more name

abbrev pub if_formed : Form → Option Text → Option Text
if_formed f None = None
if_formed f (Some t) = if has_form f t then Some t else None

-- the type by which further attributes are decided: it is there and one of the words
abbrev pub decided_by : Kind → Option Form
decided_by kind.TableColumn = Some form.ValueType
decided_by kind.Field = Some form.FieldType
decided_by _ = None

abbrev pub decided_in : Option Form → List Attribute → Option Text
decided_in None attributes = None
decided_in (Some f) attributes = if_formed f (value_of attributes (spelled word.Type))

abbrev pub decided : Kind → List Attribute → Option Text
decided k attributes = decided_in (decided_by k) attributes

-- an attribute that depends on the type: whether it is known, whether it is wanted
abbrev pub is_known : Option Text → Need → Bool
is_known d need.Required = true
is_known d need.Optional = true
is_known None (need.For w) = true
is_known (Some t) (need.For w) = bytes_eq t (spelled w)

abbrev pub is_wanted : Option Text → Need → Bool
is_wanted d need.Required = true
is_wanted d need.Optional = false
is_wanted None (need.For w) = false
is_wanted (Some t) (need.For w) = bytes_eq t (spelled w)

-- where the type is undecided, its attributes have a fault of their own, and their forms don't count
abbrev pub is_judged : Option Text → Need → Bool
is_judged d need.Required = true
is_judged d need.Optional = true
is_judged None (need.For w) = false
is_judged (Some t) (need.For w) = bytes_eq t (spelled w)

abbrev pub has_rule : Option Text → List Rule → Text → Bool
has_rule d [] name = false
has_rule d (r ∷ rs) name = if is_known d r.need && bytes_eq name (spelled r.word) then true else has_rule d rs name

-- an attribute is unknown, or is there twice
abbrev pub has_stray : Option Text → List Rule → List Attribute → List Attribute → Bool
has_stray d rs before [] = false
has_stray d rs before (a ∷ more) = if not (has_rule d rs a.name) || has_attribute before a.name then true else has_stray d rs (before ++ a ∷ []) more

-- a wanted one is missing
abbrev pub lacks : Option Text → List Attribute → List Rule → Bool
lacks d attributes [] = false
lacks d attributes (r ∷ rs) = if is_wanted d r.need && not (has_attribute attributes (spelled r.word)) then true else lacks d attributes rs

abbrev pub same : Bool → Bool → Bool
same true b = b
same false b = not b

-- a value hasn't the form that a rule gives it
abbrev pub breaks : Bool → Option Text → List Rule → Attribute → Bool
breaks parsed d [] a = false
breaks parsed d (r ∷ rs) a = if is_judged d r.need && (bytes_eq a.name (spelled r.word) && (same (is_parsed r.form) parsed && not (has_form r.form a.value))) then true else breaks parsed d rs a

abbrev pub has_malformed : Bool → Option Text → List Rule → List Attribute → Bool
has_malformed parsed d rs [] = false
has_malformed parsed d rs (a ∷ more) = if breaks parsed d rs a then true else has_malformed parsed d rs more

-- ---- children

-- the row under which an element of this name stands
abbrev pub row_of : List Child → Text → Option Child
row_of [] name = None
row_of (row ∷ rows) name = if bytes_eq name (spelled row.word) then Some row else row_of rows name

-- how many of the names are this one
abbrev pub count_of : List Text → Text → ℕ
count_of [] name = 0
count_of (n ∷ names) name = (if bytes_eq n name then 1 else 0) + count_of names name

abbrev pub is_within : Option ℕ → ℕ → Bool
is_within None n = true
is_within (Some most) n = nat_le n most

abbrev pub is_counted : List Text → Child → Bool
is_counted names row = nat_le row.least (count_of names (spelled row.word)) && is_within row.most (count_of names (spelled row.word))

abbrev pub miscounts : List Text → List Child → Bool
miscounts names [] = false
miscounts names (row ∷ rows) = if is_counted names row then miscounts names rows else true

-- the place of the row of a name, or how many rows there are
abbrev pub place_of : List Child → Text → ℕ
place_of [] name = 0
place_of (row ∷ rows) name = if bytes_eq name (spelled row.word) then 0 else 1 + place_of rows name

abbrev pub is_row : List Child → Text → Bool
is_row [] name = false
is_row (row ∷ rows) name = if bytes_eq name (spelled row.word) then true else is_row rows name

-- no name stands behind one of a later row; a name without a row doesn't count
abbrev pub disorders : List Child → ℕ → List Text → Bool
disorders rows least [] = false
disorders rows least (n ∷ names) = if is_row rows n then (if nat_lt (place_of rows n) least then true else disorders rows (place_of rows n) names) else disorders rows least names

-- number or order of what stands in an element is wrong
abbrev pub has_wrong_children : Kind → List Text → Bool
has_wrong_children k names = miscounts names (children k) || (is_ordered k && disorders (children k) 0 names)

-- the names of elements
abbrev pub names_in : List Node → List Text
names_in ns = map (λ (n : Node). (out-Node n).name) ns

-- ---- an element

-- a loopctrl in no loop
abbrev pub is_astray : Kind → Bool
is_astray (kind.LoopCtrl list.Fields) = true
is_astray (kind.LoopCtrl list.Looped) = false
is_astray (kind.LoopCtrl list.Code) = true
is_astray (kind.LoopCtrl list.Encap) = true
is_astray _ = false

abbrev pub at_line : ℕ → Cause → Bool → List Fault
at_line line why stands = if stands then record { line = line; code = code why } ∷ [] else []

-- the faults of an element's attributes
unfoldable pub of_attributes : Kind → ℕ → List Attribute → List Fault
of_attributes k line attributes =
    at_line line cause.StrayAttribute (has_stray (decided k attributes) (rules k) [] attributes)
    ++ (at_line line cause.MissingAttribute (lacks (decided k attributes) attributes (rules k))
    ++ (at_line line cause.MalformedValue (has_malformed false (decided k attributes) (rules k) attributes)
    ++ at_line line cause.MalformedExpression (has_malformed true (decided k attributes) (rules k) attributes)))

-- the faults of what stands in it, and of where it stands
unfoldable pub of_place : Kind → ℕ → ℕ → List Text → List Fault
of_place k left line names =
    at_line line cause.WrongChildren (has_wrong_children k names)
    ++ (at_line line cause.ElementTooDeep (left == 0)
    ++ at_line line cause.StrayLoopControl (is_astray k))

-- the faults of an element itself
abbrev pub own : Kind → ℕ → ℕ → List Attribute → List Text → List Fault
own k left line attributes names = of_attributes k line attributes ++ of_place k left line names

-- an element as the one around it sees it: its name and line, and the faults in it, by what it is there and how many levels are left
pub record Part : Type 0 where
  pub name : Text
  pub line : ℕ
  pub inside : Kind → ℕ → List Fault

-- it may not stand there. Nothing in it is looked at then
abbrev pub of_child : Option Child → ℕ → Part → List Fault
of_child None left p = at_line p.line cause.MisplacedElement true
of_child (Some row) left p = p.inside row.kind left

abbrev pub below : List Child → ℕ → List Part → List Fault
below rows left [] = []
below rows left (p ∷ ps) = of_child (row_of rows p.name) left p ++ below rows left ps

abbrev pub part_step : Node-F Part → Part
part_step x = record { name = x.name; line = x.line; inside = λ k left. own k left x.line x.attributes (map (λ (p : Part). p.name) x.children) ++ below (children k) (left - 1) x.children }

unfoldable pub part : Node → Part
part = fold-Node Part part_step

-- the faults of an element and of all that stands in it
abbrev pub faults : Kind → ℕ → Node → List Fault
faults k left n = (part n).inside k left

-- so many elements may stand in one another, the top one counted
abbrev pub most_levels : ℕ
most_levels = 32

-- the top element is the database
abbrev pub of_top : Part → List Fault
of_top p = if bytes_eq p.name (spelled word.Netpdl) then p.inside kind.Netpdl most_levels else at_line p.line cause.MisplacedElement true

unfoldable pub refusal : Node → Option Fault
refusal n = least (of_top (part n))
