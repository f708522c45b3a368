-- Worked examples of what one protocol leaves to the next, and one packet to the next.
use Rattle.std.specs.Prelude.{ℕ, false, List, [], ◌∷◌, codes, Some, None}
use Rattle.db_model.specs.declared.database.Database.{Database}
use Rattle.db_model.specs.declared.database.TableDecl.{TableDecl}
use Rattle.db_model.specs.declared.database.VarDecl.{VarDecl}
use Rattle.db_model.specs.declared.element.Element as element
use Rattle.db_model.specs.declared.element.Element.{Element}
use Rattle.db_model.specs.declared.element.FieldForm.TheVariants as form
use Rattle.db_model.specs.declared.entry.Validity.TheVariants.{Forever}
use Rattle.db_model.specs.declared.expression.Expr as expr
use Rattle.db_model.specs.declared.expression.Expr.{Expr}
use Rattle.db_model.specs.declared.expression.Literal.TheVariants as literal
use Rattle.db_model.specs.declared.limits.TheConstants.{PAYLOAD}
use Rattle.db_model.specs.declared.tree.Node.{Node}
use Rattle.db_model.specs.declared.tree.Node.TheVariants.{Field, Note}
use Rattle.db_model.specs.declared.tree.Proto.{Proto}
use Rattle.db_model.specs.declared.tree.Reason.TheVariants.{NoField, NoHit}
use Rattle.db_model.specs.declared.value.Ty.TheVariants as ty
use Rattle.db_model.specs.Names.{Text}
use Rattle.db_model.specs.Serial.{tree}
use Rattle.db_model.specs.Session.{declared}
use Rattle.db_examples.specs.Cases.{AreAlike, byte, a, b, choice, number_in, tree_in, read}
use Rattle.db_examples.specs.Samples.{case, list, protocol, fields, database}
use Rattle.db_examples.specs.SessionPackets.{captured}
use Rattle.db_examples.specs.TableSample.{one_table}

-- a protocol of the tree: its number, its position, its size
abbrev pub proto : ℕ → ℕ → ℕ → List Node → Proto
proto number pos size nodes = record { number = number; pos = pos; size = size; nodes = nodes }

-- the bytes that are left
abbrev pub rest : ℕ → ℕ → List ℕ → Proto
rest pos size bytes = proto PAYLOAD pos size (Field 0 pos size bytes ∷ [])

abbrev pub next_is : Text → Element
next_is name = element.NextProto 3 (expr.Protocol name)

abbrev pub variables : List VarDecl
variables = record { line = 2; name = codes "x"; ty = ty.Num; value = literal.Number 1; validity = None } ∷ []

-- table `t` and another one, of one key and one column
abbrev pub tables : List TableDecl
tables = one_table ∷ record one_table { name = codes "u" } ∷ []

-- two protocols with these fields, the second of which is named by the first
abbrev pub two : List Element → List Element → Database
two first second = record (database
    (protocol 2 (codes "startproto") None (fields 2 first []) (list 2 (next_is (codes "q") ∷ []))
    ∷ protocol 4 (codes "q") None (fields 4 second []) None
    ∷ [])) { variables = variables; tables = tables }

abbrev pub pad : Element
pad = element.Field 3 (codes "p") (form.Padding 4) None None

-- a field that is as long as the number says
abbrev pub as_long_as : Expr → Element
as_long_as e = element.Field 3 (codes "v") (form.Variable e) None None

-- entry 1 of table `t` with the value 2
abbrev pub add_one : Element
add_one = element.Update 3 (codes "t") Forever None None (record { line = 3; value = expr.Text (1 ∷ []); mask = None } ∷ []) (record { line = 3; value = expr.Text (2 ∷ []) } ∷ [])

abbrev pub look : Text → ℕ → Element
look table key = choice (expr.LookUp table false (expr.Text (key ∷ []) ∷ [])) [] []

-- the value of the row last hit in table `t`
abbrev pub row_value : Expr
row_value = expr.ToNumber (expr.Column (codes "t") (codes "d"))

abbrev pub set_x : ℕ → Element
set_x n = element.Assign 3 (codes "x") (expr.Number n)

abbrev pub x : Expr
x = expr.Variable (codes "x")

-- each part of a protocol sees what the parts before it did, and the first `nextproto` ends the last one
abbrev pub in_parts : Database
in_parts = record (database
    (protocol 2 (codes "startproto")
    (Some (record { line = 2; before = list 2 (set_x 2 ∷ []); after = list 2 (choice (expr.IsPresent (codes "v")) (set_x 3 ∷ []) [] ∷ []) }))
    (fields 2 (as_long_as x ∷ []) [])
    (list 2 (element.Switch 2 x (case 2 3 (next_is (codes "q") ∷ []) ∷ []) None ∷ next_is (codes "startproto") ∷ []))
    ∷ protocol 4 (codes "q") None (fields 4 (as_long_as x ∷ []) []) None
    ∷ [])) { variables = variables }

abbrev pub trees : List (List Proto × List Proto)
trees =
    -- padding counts from the protocol's start: 3 bytes behind byte 1 of a protocol that begins at 1
    (tree_in (two (a ∷ []) (a ∷ pad ∷ b ∷ [])) (0 ∷ 1 ∷ 0 ∷ 0 ∷ 0 ∷ 9 ∷ []), proto 0 0 1 (read 0 0 0 ∷ []) ∷ proto 1 1 5 (read 0 1 1 ∷ Field 1 2 3 (0 ∷ 0 ∷ 0 ∷ []) ∷ read 2 5 9 ∷ []) ∷ [])
    -- and is empty at a multiple
    ∷ (tree_in (two (a ∷ []) (pad ∷ b ∷ [])) (0 ∷ 7 ∷ []), proto 0 0 1 (read 0 0 0 ∷ []) ∷ proto 1 1 1 (Field 0 1 0 [] ∷ read 1 1 7 ∷ []) ∷ [])
    -- no field of the first protocol is present in the second, also where it has the number and the name of one of the second
    ∷ (tree_in (two (a ∷ []) (choice (expr.IsPresent (codes "a")) (a ∷ []) (b ∷ []) ∷ [])) (1 ∷ 2 ∷ []), proto 0 0 1 (read 0 0 1 ∷ []) ∷ proto 1 1 1 (read 1 1 2 ∷ []) ∷ [])
    ∷ (tree_in (two (byte (codes "n") ∷ []) (choice (expr.Number 0) (byte (codes "n") ∷ []) [] ∷ as_long_as (number_in (codes "n")) ∷ [])) (1 ∷ 2 ∷ []), proto 0 0 1 (read 0 0 1 ∷ []) ∷ proto 1 1 0 (Note NoField 1 ∷ []) ∷ rest 1 1 (2 ∷ []) ∷ [])
    -- the row that the first hit is, and so is its variable
    ∷ (tree_in (two (a ∷ add_one ∷ look (codes "t") 1 ∷ []) (as_long_as row_value ∷ [])) (9 ∷ 7 ∷ 8 ∷ []), proto 0 0 1 (read 0 0 9 ∷ []) ∷ proto 1 1 2 (Field 0 1 2 (7 ∷ 8 ∷ []) ∷ []) ∷ [])
    ∷ (tree_in (two (a ∷ set_x 2 ∷ []) (as_long_as x ∷ [])) (9 ∷ 7 ∷ 8 ∷ []), proto 0 0 1 (read 0 0 9 ∷ []) ∷ proto 1 1 2 (Field 0 1 2 (7 ∷ 8 ∷ []) ∷ []) ∷ [])
    -- a miss leaves the row
    ∷ (tree_in (two (a ∷ add_one ∷ look (codes "t") 1 ∷ look (codes "t") 5 ∷ []) (as_long_as row_value ∷ [])) (9 ∷ 7 ∷ 8 ∷ []), proto 0 0 1 (read 0 0 9 ∷ []) ∷ proto 1 1 2 (Field 0 1 2 (7 ∷ 8 ∷ []) ∷ []) ∷ [])
    -- an addition is no hit, nor is a miss, nor one in another table
    ∷ (tree_in (two (a ∷ add_one ∷ look (codes "t") 5 ∷ look (codes "u") 1 ∷ []) (as_long_as row_value ∷ [])) (9 ∷ 7 ∷ 8 ∷ []), proto 0 0 1 (read 0 0 9 ∷ []) ∷ proto 1 1 0 (Note NoHit 1 ∷ []) ∷ rest 1 2 (7 ∷ 8 ∷ []) ∷ [])
    ∷ (tree_in in_parts (1 ∷ 2 ∷ 3 ∷ 4 ∷ 5 ∷ []), proto 0 0 2 (Field 0 0 2 (1 ∷ 2 ∷ []) ∷ []) ∷ proto 1 2 3 (Field 0 2 3 (3 ∷ 4 ∷ 5 ∷ []) ∷ []) ∷ [])
    ∷ []

abbrev pub ProtocolsBegin : Type 0
ProtocolsBegin = AreAlike trees

-- ---- one packet after another

-- where the first byte is 1, a hit and a variable that is set
abbrev pub two_packets : Element → Database
two_packets last = two (a ∷ choice (expr.ToNumber (expr.Field (codes "a"))) (set_x 2 ∷ add_one ∷ look (codes "t") 1 ∷ []) [] ∷ last ∷ []) []

abbrev pub tree_of_second : Element → List Proto
tree_of_second last = tree (two_packets last) (declared (two_packets last)) (captured 0 0 (1 ∷ 7 ∷ 8 ∷ []) ∷ captured 1 0 (0 ∷ 7 ∷ 8 ∷ []) ∷ []) 1

abbrev pub second_packets : List (List Proto × List Proto)
second_packets =
    -- no row is hit, and each variable has its declared value, which here is 1
    (tree_of_second (as_long_as row_value), proto 0 0 1 (read 0 0 0 ∷ Note NoHit 1 ∷ []) ∷ rest 1 2 (7 ∷ 8 ∷ []) ∷ [])
    ∷ (tree_of_second (as_long_as x), proto 0 0 2 (read 0 0 0 ∷ read 1 1 7 ∷ []) ∷ proto 1 2 0 [] ∷ rest 2 1 (8 ∷ []) ∷ [])
    -- what was added is there
    ∷ (tree_of_second (choice (expr.LookUp (codes "t") false (expr.Text (1 ∷ []) ∷ [])) (as_long_as row_value ∷ []) []), proto 0 0 3 (read 0 0 0 ∷ Field 1 1 2 (7 ∷ 8 ∷ []) ∷ []) ∷ [])
    ∷ []

abbrev pub PacketsBegin : Type 0
PacketsBegin = AreAlike second_packets
