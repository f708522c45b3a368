-- A database of Ethernet, IPv4 and TCP, whose sessions are kept in a table: who answers a request is shown as text.
use Rattle.std.specs.Prelude.{ℕ, true, List, [], ◌∷◌, codes, Some, None}
use Rattle.db_model.specs.declared.database.Database.{Database}
use Rattle.db_model.specs.declared.database.Protocol.{Protocol}
use Rattle.db_model.specs.declared.database.ShowTemplate.{ShowTemplate}
use Rattle.db_model.specs.declared.database.ShowType.TheVariants as show_type
use Rattle.db_model.specs.declared.database.SumItem.TheVariants as item
use Rattle.db_model.specs.declared.database.HeaderPart.TheVariants as header
use Rattle.db_model.specs.declared.database.SumStruct.{SumStruct}
use Rattle.db_model.specs.declared.database.SumTemplate.{SumTemplate}
use Rattle.db_model.specs.declared.database.TableDecl.{TableDecl}
use Rattle.db_model.specs.declared.database.VarDecl.{VarDecl}
use Rattle.db_model.specs.declared.element.Element as element
use Rattle.db_model.specs.declared.element.Element.{Element}
use Rattle.db_model.specs.declared.element.FieldForm.TheVariants as form
use Rattle.db_model.specs.declared.element.UpdateKey.{UpdateKey}
use Rattle.db_model.specs.declared.entry.Validity.TheVariants.{UpdateOnHit}
use Rattle.db_model.specs.declared.expression.Expr as expr
use Rattle.db_model.specs.declared.expression.Expr.{Expr}
use Rattle.db_model.specs.declared.expression.Literal.TheVariants as literal
use Rattle.db_model.specs.declared.expression.Operator.TheVariants as op
use Rattle.db_model.specs.declared.value.Ty.TheVariants as ty
use Rattle.db_model.specs.Names.{Text}
use Rattle.db_examples.specs.Samples.{fixed, shown, bits, case, list, protocol, fields, database}

abbrev pub variables : List VarDecl
variables = record { line = 3; name = codes "src"; ty = ty.Buf; value = literal.Text []; validity = None } ∷ record { line = 4; name = codes "dst"; ty = ty.Buf; value = literal.Text []; validity = None } ∷ []

abbrev pub sessions : TableDecl
sessions = record {
  line = 5;
  name = codes "sessions";
  exact_entries = 1024;
  mask_entries = 0;
  keys = record { line = 6; name = codes "a"; size = 4 } ∷ record { line = 6; name = codes "b"; size = 4 } ∷ record { line = 6; name = codes "p"; size = 2 } ∷ record { line = 6; name = codes "q"; size = 2 } ∷ [];
  columns = record { line = 7; name = codes "next"; ty = ty.Proto; size = None } ∷ [];
}

abbrev pub templates : List ShowTemplate
templates = record { line = 9; name = codes "ip4"; show_type = show_type.Dec; group = 1; separator = codes "." } ∷ record { line = 10; name = codes "num"; show_type = show_type.Dec; group = 2; separator = [] } ∷ record { line = 11; name = codes "txt"; show_type = show_type.Ascii; group = 0; separator = [] } ∷ []

abbrev pub sections : SumStruct
sections = record { line = 12; sections = record { line = 12; name = codes "No" } ∷ record { line = 12; name = codes "Time" } ∷ record { line = 12; name = codes "Info" } ∷ [] }

abbrev pub summaries : List SumTemplate
summaries =
    record { line = 13; name = codes "st"; items = item.PacketHdr 13 header.Num ∷ item.Section 13 (codes "Time") ∷ item.PacketHdr 13 header.Timestamp ∷ [] }
    ∷ record { line = 14; name = codes "ips"; items = item.Section 14 (codes "Info") ∷ item.ProtoField 14 (codes "src") ∷ item.Text 14 (codes " > ") ∷ item.ProtoField 14 (codes "dst") ∷ [] }
    ∷ record { line = 15; name = codes "tcps"; items = item.Section 15 (codes "Info") ∷ item.Text 15 (codes " tcp ") ∷ item.ProtoField 15 (codes "sport") ∷ item.Text 15 (codes " ") ∷ item.ProtoField 15 (codes "dport") ∷ [] }
    ∷ record { line = 16; name = codes "txts"; items = item.Section 16 (codes "Info") ∷ item.Text 16 (codes " text ") ∷ item.ProtoField 16 (codes "line") ∷ [] }
    ∷ []

-- the protocol of this name, where the number is this one
abbrev pub chosen : ℕ → Expr → ℕ → Text → List Element
chosen line e value name = element.Switch line e (case line value (element.NextProto line (expr.Protocol name) ∷ []) ∷ []) None ∷ []

abbrev pub number_of : Text → Expr
number_of name = expr.ToNumber (expr.Field name)

abbrev pub startproto : Protocol
startproto = record (protocol 17 (codes "startproto") None None (list 17 (element.Switch 17 (expr.Variable (codes "linktype")) (case 18 1 (element.NextProto 18 (expr.Protocol (codes "ethernet")) ∷ []) ∷ []) None ∷ []))) { showsum = Some (codes "st") }

abbrev pub ethernet : Protocol
ethernet = record (protocol 19 (codes "ethernet") None
    (fields 19 (fixed 20 (codes "dst") 6 ∷ fixed 20 (codes "src") 6 ∷ fixed 21 (codes "type") 2 ∷ []) [])
    (list 22 (chosen 22 (number_of (codes "type")) 0x0800 (codes "ip")))) { longname = Some (codes "Ethernet") }

abbrev pub ip : Protocol
ip = record (protocol 23 (codes "ip")
    (Some (record { line = 24; before = None; after = list 24 (element.Assign 24 (codes "src") (expr.Field (codes "src")) ∷ element.Assign 24 (codes "dst") (expr.Field (codes "dst")) ∷ []) }))
    (fields 25 (bits 26 (codes "ver") 1 0xf0
    ∷ bits 26 (codes "hlen") 1 0x0f
    ∷ fixed 27 (codes "tos") 1
    ∷ shown 27 (codes "tlen") 2 (codes "num")
    ∷ fixed 28 (codes "idfrag") 4
    ∷ fixed 28 (codes "ttl") 1
    ∷ fixed 29 (codes "proto") 1
    ∷ fixed 29 (codes "csum") 2
    ∷ shown 30 (codes "src") 4 (codes "ip4")
    ∷ shown 30 (codes "dst") 4 (codes "ip4")
    ∷ element.Field 31 (codes "opts") (form.Variable (expr.Binary op.Sub (expr.Binary op.Mul (expr.ToNumber (expr.Field (codes "hlen"))) (expr.Number 4)) (expr.Number 20))) None None
    ∷ []) [])
    (list 32 (chosen 32 (number_of (codes "proto")) 6 (codes "tcp")))) { longname = Some (codes "IPv4"); showsum = Some (codes "ips") }

abbrev pub key : Expr → UpdateKey
key e = record { line = 36; value = e; mask = None }

abbrev pub remember : Element
remember = element.Update 35 (codes "sessions") UpdateOnHit (Some 60) (Some 300)
    (key (expr.Variable (codes "dst")) ∷ key (expr.Variable (codes "src")) ∷ key (expr.Field (codes "dport")) ∷ key (expr.Field (codes "sport")) ∷ [])
    (record { line = 36; value = expr.Protocol (codes "text") } ∷ [])

abbrev pub tcp : Protocol
tcp = record (protocol 33 (codes "tcp")
    (Some (record { line = 34; before = None; after = list 34 (element.If 34 (expr.Binary op.Eq (number_of (codes "dport")) (expr.Number 80)) 34 (remember ∷ []) None ∷ []) }))
    (fields 38 (shown 39 (codes "sport") 2 (codes "num")
    ∷ shown 39 (codes "dport") 2 (codes "num")
    ∷ fixed 40 (codes "seqack") 8
    ∷ bits 41 (codes "off") 1 0xf0
    ∷ bits 41 (codes "res") 1 0x0f
    ∷ fixed 42 (codes "flags") 1
    ∷ fixed 42 (codes "win") 2
    ∷ fixed 43 (codes "csumurg") 4
    ∷ element.Field 44 (codes "opts") (form.Variable (expr.Binary op.Sub (expr.Binary op.Mul (expr.ToNumber (expr.Field (codes "off"))) (expr.Number 4)) (expr.Number 20))) None None
    ∷ []) [])
    (list 45 (element.If 45 (expr.LookUp (codes "sessions") true (expr.Variable (codes "src") ∷ expr.Variable (codes "dst") ∷ expr.Field (codes "sport") ∷ expr.Field (codes "dport") ∷ [])) 45 (element.NextProto 46 (expr.Column (codes "sessions") (codes "next")) ∷ []) None ∷ []))) { showsum = Some (codes "tcps") }

abbrev pub text : Protocol
text = record (protocol 47 (codes "text") None (fields 47 (element.Field 47 (codes "line") form.Line None (Some (codes "txt")) ∷ []) []) None) { showsum = Some (codes "txts") }

unfoldable pub sessions_db : Database
sessions_db = record (database (startproto ∷ ethernet ∷ ip ∷ tcp ∷ text ∷ [])) { line = 2; variables = variables; tables = sessions ∷ []; show_templates = templates; sum_struct = Some sections; sum_templates = summaries }
