-- The database that a tree without faults means is shaped.
use Rattle.std.specs.Prelude.{◌≡◌, ℕ, ◌-◌, Bool, true, false, nat_le, if◌then◌else◌, List, [], ◌∷◌, Option, Some, None}
use Rattle.std.specs.List.{list_all}
use Rattle.std.proofs.Common.{refl, ap, ◌∙◌}
use Rattle.std.proofs.lemmas.Bool.{and_parts}
use Rattle.db_model.specs.declared.database.ElementList.{ElementList}
use Rattle.db_model.specs.declared.database.HeaderPart.{HeaderPart}
use Rattle.db_model.specs.declared.database.SumItem.{SumItem}
use Rattle.db_model.specs.declared.database.SumItem.TheVariants as item
use Rattle.db_model.specs.declared.limits.TheConstants.{MOST_KEYS, MOST_COLUMNS, MOST_SECTIONS}
use Rattle.db_model.specs.Forms.{is_between, is_text, if_there}
use Rattle.db_model.specs.Name.{is_name}
use Rattle.db_model.specs.Names.{Text}
use Rattle.db_model.specs.Shape as shape
use Rattle.db_model.specs.Shape.{is_list, is_list_of, item_is_shaped, column_is_shaped, variable_is_shaped, table_is_shaped, template_is_shaped, sections_are_shaped, sum_is_shaped, block_is_shaped, code_is_shaped, format_is_shaped, protocol_is_shaped, is_shaped}
use Rattle.db_text.specs.declared.node.Node.{Node, out-Node}
use Rattle.db_load.specs.declared.kind.Kind.TheVariants as kind
use Rattle.db_load.specs.declared.kind.ListKind.TheVariants as list
use Rattle.db_load.specs.declared.rule.Child.{Child}
use Rattle.db_load.specs.declared.word.Word.TheVariants as word
use Rattle.db_load.specs.Faults.{miscounts, count_of, names_in, row_of, faults, refusal, most_levels}
use Rattle.db_load.specs.Rules.{in_list, children}
use Rattle.db_load.specs.Values.{name_by, section_by, filled_by, header_part_by, ty_by}
use Rattle.db_load.specs.Whole
use Rattle.db_load.specs.Whole.{of, is, inside, each_of, one_of, put_item, item_of, items_in, list_of, database_of}
use Rattle.db_load.specs.Words.{spelled}
use Rattle.db_load.proofs.Clean.{clean, kind_in, each_good, one_good, each_all, count_each, counted, row_counted, top_clean}
use Rattle.db_load.proofs.Stands.{fine}
use Rattle.db_load.proofs.Trees.{Each, each_of_all}
use Rattle.db_load.proofs.ValueForms.{both, ReadsFormed, name_ok, optional_name_ok, variable_name_ok, section_ok, text_ok, filled_ok, separator_ok, literal_ok, size_ok}

-- ---- templates

-- an item, from what its values are
item_by : (a b c d : Bool) (line : ℕ) (s t n : Text) (v : HeaderPart) → shape.is_section s ≡ true → is_text t ≡ true → is_name n ≡ true
    → if_there item_is_shaped (if a then Some (item.Section line s) else (if b then Some (item.Text line t) else (if c then Some (item.ProtoField line n) else (if d then Some (item.PacketHdr line v) else None)))) ≡ true
item_by true b c d line s t n v x y z = x
item_by false true c d line s t n v x y z = y
item_by false false true d line s t n v x y z = z
item_by false false false true line s t n v x y z = refl
item_by false false false false line s t n v x y z = refl

item_good : (n : Node) → if_there item_is_shaped (item_of n) ≡ true
item_good n = item_by (is word.Section n) (is word.Text n) (is word.ProtoField n) (is word.PacketHdr n) (out-Node n).line
    (section_by (of n word.Name)) (filled_by (of n word.Value)) (name_by (of n word.Name)) (header_part_by (of n word.Value))
    (section_ok (of n word.Name)) (filled_ok (of n word.Value)) (name_ok (of n word.Name))

put_good : (o : Option SumItem) (rest : List SumItem) → if_there item_is_shaped o ≡ true → list_all item_is_shaped rest ≡ true → list_all item_is_shaped (put_item o rest) ≡ true
put_good None rest h r = r
put_good (Some i) rest h r = both h r

items_good : (ns : List Node) → list_all item_is_shaped (items_in ns) ≡ true
items_good [] = refl
items_good (n ∷ ns) = put_good (item_of n) (items_in ns) (item_good n) (items_good ns)

template_good : (n : Node) → template_is_shaped (Whole.show_template n) ≡ true
template_good n = both (name_ok (of n word.Name)) (separator_ok (of n word.ShowSep))

sum_good : (n : Node) → sum_is_shaped (Whole.sum_template n) ≡ true
sum_good n = both (name_ok (of n word.Name)) (items_good (inside n))

-- ---- numbers of keys, columns and sections

abbrev key_row : Child
key_row = record { word = word.Key; kind = kind.TableKey; least = 1; most = Some 8 }

abbrev column_row : Child
column_row = record { word = word.Data; kind = kind.TableColumn; least = 0; most = Some 8 }

abbrev section_row : Child
section_row = record { word = word.Section; kind = kind.Section; least = 1; most = Some 16 }

table_counts : (names : List Text) → miscounts names (children kind.Table) ≡ false → (is_between 1 MOST_KEYS (count_of names (spelled word.Key)) ≡ true) × (nat_le (count_of names (spelled word.Data)) MOST_COLUMNS ≡ true)
unfolding children
table_counts names h =
    let keys = row_counted names key_row (column_row ∷ []) h in
    let columns = row_counted names column_row [] keys.1 in
    (keys.0, (and_parts (nat_le 0 (count_of names (spelled word.Data))) (nat_le (count_of names (spelled word.Data)) MOST_COLUMNS) columns.0).1)

section_counts : (names : List Text) → miscounts names (children kind.SumStruct) ≡ false → is_between 1 MOST_SECTIONS (count_of names (spelled word.Section)) ≡ true
unfolding children
section_counts names h = (row_counted names section_row [] h).0

table_good : (left : ℕ) (n : Node) → faults kind.Table left n ≡ [] → table_is_shaped (Whole.table n) ≡ true
table_good left n h =
    let counts = table_counts (names_in (inside n)) (counted kind.Table (names_in (inside n)) (clean kind.Table left n h).number) in
    both (name_ok (of n word.Name)) (both
    (ap (is_between 1 MOST_KEYS) (count_each word.Key Whole.key (inside n)) ∙ counts.0) (both
    (ap (λ c. nat_le c MOST_COLUMNS) (count_each word.Data Whole.column (inside n)) ∙ counts.1) (both
    (each_all word.Key Whole.key (λ k. is_name k.name) (λ k. name_ok (of k word.Name)) (inside n))
    (each_all word.Data Whole.column column_is_shaped (λ c. both (name_ok (of c word.Name)) (size_ok (ty_by (of c word.Type)) (of c word.Size))) (inside n)))))

sections_good : (left : ℕ) (n : Node) → faults kind.SumStruct left n ≡ [] → sections_are_shaped (Whole.sum_struct n) ≡ true
sections_good left n h =
    both
    (ap (is_between 1 MOST_SECTIONS) (count_each word.Section Whole.section (inside n)) ∙ section_counts (names_in (inside n)) (counted kind.SumStruct (names_in (inside n)) (clean kind.SumStruct left n h).number))
    (each_all word.Section Whole.section (λ s. shape.is_section s.name) (λ s. section_ok (of s word.Name)) (inside n))

-- ---- the kinds of what stands in each

before_row : kind_in (row_of (children kind.ExecuteCode) (spelled word.Before)) ≡ Some kind.CodeList
unfolding children spelled
before_row = refl

after_row : kind_in (row_of (children kind.ExecuteCode) (spelled word.After)) ≡ Some kind.CodeList
unfolding children spelled
after_row = refl

fields_row : kind_in (row_of (children kind.Format) (spelled word.Fields)) ≡ Some kind.Fields
unfolding children spelled
fields_row = refl

block_row : kind_in (row_of (children kind.Format) (spelled word.Block)) ≡ Some kind.NamedBlock
unfolding children spelled
block_row = refl

code_row : kind_in (row_of (children kind.Protocol) (spelled word.ExecuteCode)) ≡ Some kind.ExecuteCode
unfolding children spelled
code_row = refl

format_row : kind_in (row_of (children kind.Protocol) (spelled word.Format)) ≡ Some kind.Format
unfolding children spelled
format_row = refl

encapsulation_row : kind_in (row_of (children kind.Protocol) (spelled word.Encapsulation)) ≡ Some kind.Encapsulation
unfolding children spelled
encapsulation_row = refl

table_row : kind_in (row_of (children kind.Netpdl) (spelled word.LookupTable)) ≡ Some kind.Table
unfolding children spelled
table_row = refl

sum_struct_row : kind_in (row_of (children kind.Netpdl) (spelled word.ShowSumStruct)) ≡ Some kind.SumStruct
unfolding children spelled
sum_struct_row = refl

protocol_row : kind_in (row_of (children kind.Netpdl) (spelled word.Protocol)) ≡ Some kind.Protocol
unfolding children spelled
protocol_row = refl

-- the lists of kinds
code_list : children kind.CodeList ≡ in_list list.Code
unfolding children in_list
code_list = refl

fields_list : children kind.Fields ≡ in_list list.Fields
unfolding children in_list
fields_list = refl

block_list : children kind.NamedBlock ≡ in_list list.Fields
unfolding children in_list
block_list = refl

encapsulation_list : children kind.Encapsulation ≡ in_list list.Encap
unfolding children in_list
encapsulation_list = refl

-- ---- protocols

-- nothing has to be known of the elements beside that they have no fault
abbrev Nothing : Node → Type 0
Nothing n = Unit {0}

nothing : (ns : List Node) → Each Nothing ns
nothing ns = each_of_all Nothing (λ n. tt) ns

module _ (formed : ReadsFormed) where
  variable_good : (n : Node) → variable_is_shaped (Whole.variable n) ≡ true
  variable_good n = both (variable_name_ok (of n word.Name)) (literal_ok formed (of n word.Value))

  code_elements : (left : ℕ) (n : Node) → faults kind.CodeList left n ≡ [] → is_list shape.CodeList (list_of kind.CodeList n).elements ≡ true
  code_elements left n h = (fine formed n kind.CodeList left h).body list.Code code_list

  field_elements : (left : ℕ) (n : Node) → faults kind.Fields left n ≡ [] → is_list shape.FieldList (list_of kind.Fields n).elements ≡ true
  field_elements left n h = (fine formed n kind.Fields left h).body list.Fields fields_list

  encap_elements : (left : ℕ) (n : Node) → faults kind.Encapsulation left n ≡ [] → is_list shape.EncapList (list_of kind.Encapsulation n).elements ≡ true
  encap_elements left n h = (fine formed n kind.Encapsulation left h).body list.Encap encapsulation_list

  block_good : (left : ℕ) (n : Node) → faults kind.NamedBlock left n ≡ [] → block_is_shaped (Whole.named_block n) ≡ true
  block_good left n h = both (name_ok (of n word.Name)) (both (text_ok (of n word.LongName)) ((fine formed n kind.NamedBlock left h).body list.Fields block_list))

  code_good : (left : ℕ) (n : Node) → faults kind.ExecuteCode left n ≡ [] → code_is_shaped (Whole.execute_code n) ≡ true
  code_good left n h =
      let c = clean kind.ExecuteCode left n h in
      both
      (one_good (children kind.ExecuteCode) word.Before kind.CodeList (left - 1) before_row Nothing (list_of kind.CodeList) (λ (l : ElementList). is_list shape.CodeList l.elements) (λ m q k. code_elements (left - 1) m k) (inside n) (nothing (inside n)) c.inside)
      (one_good (children kind.ExecuteCode) word.After kind.CodeList (left - 1) after_row Nothing (list_of kind.CodeList) (λ (l : ElementList). is_list shape.CodeList l.elements) (λ m q k. code_elements (left - 1) m k) (inside n) (nothing (inside n)) c.inside)

  format_good : (left : ℕ) (n : Node) → faults kind.Format left n ≡ [] → format_is_shaped (Whole.format n) ≡ true
  format_good left n h =
      let c = clean kind.Format left n h in
      both
      (one_good (children kind.Format) word.Fields kind.Fields (left - 1) fields_row Nothing (list_of kind.Fields) (λ (l : ElementList). is_list shape.FieldList l.elements) (λ m q k. field_elements (left - 1) m k) (inside n) (nothing (inside n)) c.inside)
      (each_good (children kind.Format) word.Block kind.NamedBlock (left - 1) block_row Nothing Whole.named_block block_is_shaped (λ m q k. block_good (left - 1) m k) (inside n) (nothing (inside n)) c.inside)

  protocol_good : (left : ℕ) (n : Node) → faults kind.Protocol left n ≡ [] → protocol_is_shaped (Whole.protocol n) ≡ true
  protocol_good left n h =
      let c = clean kind.Protocol left n h in
      both (name_ok (of n word.Name)) (both (text_ok (of n word.LongName)) (both (optional_name_ok (of n word.ShowSum)) (both
      (one_good (children kind.Protocol) word.ExecuteCode kind.ExecuteCode (left - 1) code_row Nothing Whole.execute_code code_is_shaped (λ m q k. code_good (left - 1) m k) (inside n) (nothing (inside n)) c.inside) (both
      (one_good (children kind.Protocol) word.Format kind.Format (left - 1) format_row Nothing Whole.format format_is_shaped (λ m q k. format_good (left - 1) m k) (inside n) (nothing (inside n)) c.inside)
      (one_good (children kind.Protocol) word.Encapsulation kind.Encapsulation (left - 1) encapsulation_row Nothing (list_of kind.Encapsulation) (λ (l : ElementList). is_list shape.EncapList l.elements) (λ m q k. encap_elements (left - 1) m k) (inside n) (nothing (inside n)) c.inside)))))

  -- ---- the whole

  pub shaped : (n : Node) → refusal n ≡ None → is_shaped (database_of n) ≡ true
  unfolding is_shaped database_of
  shaped n h =
      let c = clean kind.Netpdl most_levels n (top_clean n h) in
      both (both (text_ok (of n word.Name)) (both (text_ok (of n word.Version)) (both (text_ok (of n word.Creator)) (text_ok (of n word.Date))))) (both
      (each_all word.Variable Whole.variable variable_is_shaped variable_good (inside n)) (both
      (each_good (children kind.Netpdl) word.LookupTable kind.Table (most_levels - 1) table_row Nothing Whole.table table_is_shaped (λ m q k. table_good (most_levels - 1) m k) (inside n) (nothing (inside n)) c.inside) (both
      (each_all word.ShowTemplate Whole.show_template template_is_shaped template_good (inside n)) (both
      (one_good (children kind.Netpdl) word.ShowSumStruct kind.SumStruct (most_levels - 1) sum_struct_row Nothing Whole.sum_struct sections_are_shaped (λ m q k. sections_good (most_levels - 1) m k) (inside n) (nothing (inside n)) c.inside) (both
      (each_all word.ShowSumTemplate Whole.sum_template sum_is_shaped sum_good (inside n))
      (each_good (children kind.Netpdl) word.Protocol kind.Protocol (most_levels - 1) protocol_row Nothing Whole.protocol protocol_is_shaped (λ m q k. protocol_good (most_levels - 1) m k) (inside n) (nothing (inside n)) c.inside))))))
