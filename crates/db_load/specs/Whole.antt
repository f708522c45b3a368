-- The database that the top element without faults means: its declarations, each kind in its order.
use Rattle.std.specs.Prelude.{ℕ, Bool, if◌then◌else◌, List, [], ◌∷◌, bytes_eq, Option, Some, None}
use Rattle.db_model.specs.declared.database.ColumnDecl.{ColumnDecl}
use Rattle.db_model.specs.declared.database.Database.{Database}
use Rattle.db_model.specs.declared.database.ElementList.{ElementList}
use Rattle.db_model.specs.declared.database.ExecuteCode.{ExecuteCode}
use Rattle.db_model.specs.declared.database.Format.{Format}
use Rattle.db_model.specs.declared.database.KeyDecl.{KeyDecl}
use Rattle.db_model.specs.declared.database.NamedBlock.{NamedBlock}
use Rattle.db_model.specs.declared.database.Protocol.{Protocol}
use Rattle.db_model.specs.declared.database.SectionDecl.{SectionDecl}
use Rattle.db_model.specs.declared.database.ShowTemplate.{ShowTemplate}
use Rattle.db_model.specs.declared.database.SumItem.{SumItem}
use Rattle.db_model.specs.declared.database.SumItem.TheVariants as item
use Rattle.db_model.specs.declared.database.SumStruct.{SumStruct}
use Rattle.db_model.specs.declared.database.SumTemplate.{SumTemplate}
use Rattle.db_model.specs.declared.database.TableDecl.{TableDecl}
use Rattle.db_model.specs.declared.database.VarDecl.{VarDecl}
use Rattle.db_model.specs.declared.database.VarValidity.{VarValidity}
use Rattle.db_model.specs.declared.database.VarValidity.TheVariants as lasting
use Rattle.db_model.specs.declared.value.Ty.{Ty}
use Rattle.db_model.specs.declared.value.Ty.TheVariants as ty
use Rattle.db_model.specs.Names.{Text}
use Rattle.db_text.specs.declared.node.Node.{Node, out-Node}
use Rattle.db_load.specs.declared.kind.Kind.{Kind}
use Rattle.db_load.specs.declared.kind.Kind.TheVariants as kind
use Rattle.db_load.specs.declared.word.Word.{Word}
use Rattle.db_load.specs.declared.word.Word.TheVariants as word
use Rattle.db_load.specs.Faults.{value_of}
use Rattle.db_load.specs.Meaning.{meant}
use Rattle.db_load.specs.Values.{name_by, optional_name_by, variable_name_by, section_by, text_by, filled_by, separator_by, number_by, literal_by, is_word, ty_by, show_type_by, header_part_by}
use Rattle.db_load.specs.Words.{spelled}

-- the value of an attribute of an element
abbrev pub of : Node → Word → Option Text
of n w = value_of (out-Node n).attributes (spelled w)

-- whether an element has a name
abbrev pub is : Word → Node → Bool
is w n = bytes_eq (out-Node n).name (spelled w)

-- those of a name, in order, each as what it means
abbrev pub each_of : {A : Type 0} → Word → (Node → A) → List Node → List A
each_of w f [] = []
each_of w f (n ∷ ns) = if is w n then f n ∷ each_of w f ns else each_of w f ns

-- the first of a name
abbrev pub one_of : {A : Type 0} → Word → (Node → A) → List Node → Option A
one_of w f [] = None
one_of w f (n ∷ ns) = if is w n then Some (f n) else one_of w f ns

abbrev pub inside : Node → List Node
inside n = (out-Node n).children

-- ---- variables and tables

abbrev pub lasting_by : Option Text → Option VarValidity
lasting_by t = if is_word t word.Packet then Some lasting.Packet else None

abbrev pub variable : Node → VarDecl
variable n = record { line = (out-Node n).line; name = variable_name_by (of n word.Name); ty = ty_by (of n word.Type); value = literal_by (of n word.Value); validity = lasting_by (of n word.Validity) }

abbrev pub key : Node → KeyDecl
key n = record { line = (out-Node n).line; name = name_by (of n word.Name); size = number_by (of n word.Size) }

-- a size stands exactly where the type is buf
abbrev pub size_by : Ty → Option Text → Option ℕ
size_by ty.Num t = None
size_by ty.Buf t = Some (number_by t)
size_by ty.Proto t = None

abbrev pub column : Node → ColumnDecl
column n = record { line = (out-Node n).line; name = name_by (of n word.Name); ty = ty_by (of n word.Type); size = size_by (ty_by (of n word.Type)) (of n word.Size) }

abbrev pub table : Node → TableDecl
table n = record { line = (out-Node n).line; name = name_by (of n word.Name); exact_entries = number_by (of n word.ExactEntries); mask_entries = number_by (of n word.MaskEntries); keys = each_of word.Key key (inside n); columns = each_of word.Data column (inside n) }

-- ---- templates and the summary

abbrev pub show_template : Node → ShowTemplate
show_template n = record { line = (out-Node n).line; name = name_by (of n word.Name); show_type = show_type_by (of n word.ShowType); group = number_by (of n word.ShowGrp); separator = separator_by (of n word.ShowSep) }

abbrev pub section : Node → SectionDecl
section n = record { line = (out-Node n).line; name = section_by (of n word.Name) }

abbrev pub sum_struct : Node → SumStruct
sum_struct n = record { line = (out-Node n).line; sections = each_of word.Section section (inside n) }

-- an item of a sum template; an element of another name is none
abbrev pub item_of : Node → Option SumItem
item_of n =
    if is word.Section n then Some (item.Section (out-Node n).line (section_by (of n word.Name)))
    else (if is word.Text n then Some (item.Text (out-Node n).line (filled_by (of n word.Value)))
    else (if is word.ProtoField n then Some (item.ProtoField (out-Node n).line (name_by (of n word.Name)))
    else (if is word.PacketHdr n then Some (item.PacketHdr (out-Node n).line (header_part_by (of n word.Value)))
    else None)))

abbrev pub put_item : Option SumItem → List SumItem → List SumItem
put_item None rest = rest
put_item (Some i) rest = i ∷ rest

abbrev pub items_in : List Node → List SumItem
items_in [] = []
items_in (n ∷ ns) = put_item (item_of n) (items_in ns)

abbrev pub sum_template : Node → SumTemplate
sum_template n = record { line = (out-Node n).line; name = name_by (of n word.Name); items = items_in (inside n) }

-- ---- protocols

abbrev pub list_of : Kind → Node → ElementList
list_of k n = record { line = (out-Node n).line; elements = (meant n).body k }

abbrev pub execute_code : Node → ExecuteCode
execute_code n = record { line = (out-Node n).line; before = one_of word.Before (list_of kind.CodeList) (inside n); after = one_of word.After (list_of kind.CodeList) (inside n) }

abbrev pub named_block : Node → NamedBlock
named_block n = record { line = (out-Node n).line; name = name_by (of n word.Name); longname = text_by (of n word.LongName); body = (meant n).body kind.NamedBlock }

abbrev pub format : Node → Format
format n = record { line = (out-Node n).line; fields = one_of word.Fields (list_of kind.Fields) (inside n); blocks = each_of word.Block named_block (inside n) }

abbrev pub protocol : Node → Protocol
protocol n = record { line = (out-Node n).line; name = name_by (of n word.Name); longname = text_by (of n word.LongName); showsum = optional_name_by (of n word.ShowSum); execute_code = one_of word.ExecuteCode execute_code (inside n); format = one_of word.Format format (inside n); encapsulation = one_of word.Encapsulation (list_of kind.Encapsulation) (inside n) }

-- the whole
unfoldable pub database_of : Node → Database
database_of n = record {
  line = (out-Node n).line;
  name = text_by (of n word.Name);
  version = text_by (of n word.Version);
  creator = text_by (of n word.Creator);
  date = text_by (of n word.Date);
  variables = each_of word.Variable variable (inside n);
  tables = each_of word.LookupTable table (inside n);
  show_templates = each_of word.ShowTemplate show_template (inside n);
  sum_struct = one_of word.ShowSumStruct sum_struct (inside n);
  sum_templates = each_of word.ShowSumTemplate sum_template (inside n);
  protocols = each_of word.Protocol protocol (inside n);
}
