-- What each kind of element may have, in the order of the language: its attributes, each with its form, and what may stand in it, in what numbers. The code has tables of its own, which are promised to be these (`rules`, `children`, `is_ordered`).
use Rattle.std.specs.Prelude.{ℕ, Bool, true, false, List, [], ◌∷◌, Some, None}
use Rattle.db_load.specs.declared.kind.Kind.{Kind}
use Rattle.db_load.specs.declared.kind.Kind.TheVariants as kind
use Rattle.db_load.specs.declared.kind.ListKind.{ListKind}
use Rattle.db_load.specs.declared.kind.ListKind.TheVariants as list
use Rattle.db_load.specs.declared.rule.Child.{Child}
use Rattle.db_load.specs.declared.rule.Form.{Form}
use Rattle.db_load.specs.declared.rule.Form.TheVariants as form
use Rattle.db_load.specs.declared.rule.Need.TheVariants as need
use Rattle.db_load.specs.declared.rule.Rule.{Rule}
use Rattle.db_load.specs.declared.word.Word.{Word}
use Rattle.db_load.specs.declared.word.Word.TheVariants as word

-- ---- attributes

-- one that has to be there
abbrev pub required : Word → Form → Rule
required w f = record { word = w; need = need.Required; form = f }

abbrev pub optional : Word → Form → Rule
optional w f = record { word = w; need = need.Optional; form = f }

-- one that has to be there where the type is this word, and is unknown where it is another
abbrev pub for_type : Word → Word → Form → Rule
for_type t w f = record { word = w; need = need.For t; form = f }

unfoldable pub rules : Kind → List Rule
rules kind.Netpdl = optional word.Name form.Text ∷ optional word.Version form.Text ∷ optional word.Creator form.Text ∷ optional word.Date form.Text ∷ []
rules kind.Variable = required word.Name form.VariableName ∷ required word.Type form.ValueType ∷ required word.Value form.Literal ∷ optional word.Validity form.VariableValidity ∷ []
rules kind.Table = required word.Name form.Name ∷ required word.ExactEntries form.Number ∷ required word.MaskEntries form.Number ∷ []
rules kind.TableKey = required word.Name form.Name ∷ required word.Size form.Number ∷ []
rules kind.TableColumn = required word.Name form.Name ∷ required word.Type form.ValueType ∷ for_type word.Buf word.Size form.Number ∷ []
rules kind.ShowTemplate = required word.Name form.Name ∷ required word.ShowType form.ShowType ∷ optional word.ShowGrp form.Number ∷ optional word.ShowSep form.Separator ∷ []
rules kind.SumStruct = []
rules kind.Section = required word.Name form.FilledText ∷ []
rules kind.SumTemplate = required word.Name form.Name ∷ []
rules kind.SectionItem = required word.Name form.FilledText ∷ []
rules kind.TextItem = required word.Value form.Text ∷ []
rules kind.ProtoFieldItem = required word.Name form.Name ∷ []
rules kind.PacketHdrItem = required word.Value form.HeaderPart ∷ []
rules kind.Protocol = required word.Name form.Name ∷ optional word.LongName form.Text ∷ optional word.ShowSum form.Name ∷ []
rules kind.ExecuteCode = []
rules kind.CodeList = []
rules kind.Format = []
rules kind.Fields = []
rules kind.NamedBlock = required word.Name form.Name ∷ optional word.LongName form.Text ∷ []
rules (kind.Block l) = required word.Name form.Name ∷ optional word.LongName form.Text ∷ []
rules kind.IncludeBlock = required word.Name form.Name ∷ []
rules kind.Field =
    required word.Name form.Name
    ∷ required word.Type form.FieldType
    ∷ for_type word.Fixed word.Size form.Number
    ∷ for_type word.Bit word.Size form.Number
    ∷ for_type word.Bit word.Mask form.Number
    ∷ for_type word.Variable word.Expr form.Expr
    ∷ for_type word.TokenEnded word.Token form.Quoted
    ∷ for_type word.Padding word.Align form.Number
    ∷ optional word.LongName form.Text
    ∷ optional word.Show form.Name
    ∷ []
rules kind.Loop = required word.Type form.LoopType ∷ required word.Expr form.Expr ∷ []
rules (kind.LoopCtrl l) = required word.Type form.LoopControl ∷ []
rules (kind.Switch l) = required word.Expr form.Expr ∷ []
rules (kind.Case l) = required word.Value form.Number ∷ optional word.MaxValue form.Number ∷ []
rules (kind.Branch l) = []
rules (kind.If l) = required word.Expr form.Expr ∷ []
rules kind.Assign = required word.Name form.VariableName ∷ required word.Value form.Expr ∷ []
rules kind.Update = required word.Action form.UpdateAction ∷ required word.Table form.Name ∷ required word.Validity form.EntryValidity ∷ optional word.KeepTime form.Number ∷ optional word.HitTime form.Number ∷ []
rules kind.UpdateKey = required word.Value form.Expr ∷ optional word.Mask form.Mask ∷ []
rules kind.UpdateValue = required word.Value form.Expr ∷ []
rules kind.Encapsulation = []
rules kind.NextProto = required word.Proto form.Expr ∷ []

-- ---- what may stand in an element

-- elements of a name are of this kind there: any number, at most so many, or from so many to so many
abbrev pub any : Word → Kind → Child
any w k = record { word = w; kind = k; least = 0; most = None }

abbrev pub at_most : ℕ → Word → Kind → Child
at_most most w k = record { word = w; kind = k; least = 0; most = Some most }

abbrev pub between : ℕ → ℕ → Word → Kind → Child
between least most w k = record { word = w; kind = k; least = least; most = Some most }

-- a field list, in a loop or in none
abbrev pub in_fields : ListKind → List Child
in_fields l =
    any word.Field kind.Field
    ∷ any word.Block (kind.Block l)
    ∷ any word.IncludeBlk kind.IncludeBlock
    ∷ any word.Loop kind.Loop
    ∷ any word.LoopCtrl (kind.LoopCtrl l)
    ∷ any word.Switch (kind.Switch l)
    ∷ any word.If (kind.If l)
    ∷ any word.AssignVariable kind.Assign
    ∷ any word.UpdateLookupTable kind.Update
    ∷ []

-- the elements of a list
unfoldable pub in_list : ListKind → List Child
in_list list.Fields = in_fields list.Fields
in_list list.Looped = in_fields list.Looped
in_list list.Code = any word.Switch (kind.Switch list.Code) ∷ any word.If (kind.If list.Code) ∷ any word.AssignVariable kind.Assign ∷ any word.UpdateLookupTable kind.Update ∷ []
in_list list.Encap = any word.Switch (kind.Switch list.Encap) ∷ any word.If (kind.If list.Encap) ∷ any word.NextProto kind.NextProto ∷ []

-- what stands in a switch of a list, and in a condition: lists of the same kind
unfoldable pub in_switch : ListKind → List Child
in_switch l = any word.Case (kind.Case l) ∷ at_most 1 word.Default (kind.Branch l) ∷ []

unfoldable pub in_if : ListKind → List Child
in_if l = between 1 1 word.IfTrue (kind.Branch l) ∷ at_most 1 word.IfFalse (kind.Branch l) ∷ []

unfoldable pub children : Kind → List Child
children kind.Netpdl =
    any word.Variable kind.Variable
    ∷ any word.LookupTable kind.Table
    ∷ any word.ShowTemplate kind.ShowTemplate
    ∷ at_most 1 word.ShowSumStruct kind.SumStruct
    ∷ any word.ShowSumTemplate kind.SumTemplate
    ∷ any word.Protocol kind.Protocol
    ∷ []
children kind.Variable = []
children kind.Table = between 1 8 word.Key kind.TableKey ∷ at_most 8 word.Data kind.TableColumn ∷ []
children kind.TableKey = []
children kind.TableColumn = []
children kind.ShowTemplate = []
children kind.SumStruct = between 1 16 word.Section kind.Section ∷ []
children kind.Section = []
children kind.SumTemplate = any word.Section kind.SectionItem ∷ any word.Text kind.TextItem ∷ any word.ProtoField kind.ProtoFieldItem ∷ any word.PacketHdr kind.PacketHdrItem ∷ []
children kind.SectionItem = []
children kind.TextItem = []
children kind.ProtoFieldItem = []
children kind.PacketHdrItem = []
children kind.Protocol = at_most 1 word.ExecuteCode kind.ExecuteCode ∷ at_most 1 word.Format kind.Format ∷ at_most 1 word.Encapsulation kind.Encapsulation ∷ []
children kind.ExecuteCode = at_most 1 word.Before kind.CodeList ∷ at_most 1 word.After kind.CodeList ∷ []
children kind.CodeList = in_list list.Code
children kind.Format = at_most 1 word.Fields kind.Fields ∷ any word.Block kind.NamedBlock ∷ []
children kind.Fields = in_list list.Fields
children kind.NamedBlock = in_list list.Fields
children (kind.Block l) = in_list l
children kind.IncludeBlock = []
children kind.Field = []
children kind.Loop = in_list list.Looped
children (kind.LoopCtrl l) = []
children (kind.Switch l) = in_switch l
children (kind.Case l) = in_list l
children (kind.Branch l) = in_list l
children (kind.If l) = in_if l
children kind.Assign = []
children kind.Update = any word.Key kind.UpdateKey ∷ any word.Data kind.UpdateValue ∷ []
children kind.UpdateKey = []
children kind.UpdateValue = []
children kind.Encapsulation = in_list list.Encap
children kind.NextProto = []

-- whether that has the order of the rows: first keys, then data; first `fields`, then blocks; first cases, then `default`; first `if-true`, then `if-false`
unfoldable pub is_ordered : Kind → Bool
is_ordered kind.Netpdl = false
is_ordered kind.Variable = false
is_ordered kind.Table = true
is_ordered kind.TableKey = false
is_ordered kind.TableColumn = false
is_ordered kind.ShowTemplate = false
is_ordered kind.SumStruct = false
is_ordered kind.Section = false
is_ordered kind.SumTemplate = false
is_ordered kind.SectionItem = false
is_ordered kind.TextItem = false
is_ordered kind.ProtoFieldItem = false
is_ordered kind.PacketHdrItem = false
is_ordered kind.Protocol = false
is_ordered kind.ExecuteCode = false
is_ordered kind.CodeList = false
is_ordered kind.Format = true
is_ordered kind.Fields = false
is_ordered kind.NamedBlock = false
is_ordered (kind.Block l) = false
is_ordered kind.IncludeBlock = false
is_ordered kind.Field = false
is_ordered kind.Loop = false
is_ordered (kind.LoopCtrl l) = false
is_ordered (kind.Switch l) = true
is_ordered (kind.Case l) = false
is_ordered (kind.Branch l) = false
is_ordered (kind.If l) = true
is_ordered kind.Assign = false
is_ordered kind.Update = true
is_ordered kind.UpdateKey = false
is_ordered kind.UpdateValue = false
is_ordered kind.Encapsulation = false
is_ordered kind.NextProto = false
