-- Worked examples of expressions: the value or the reason that each gives, its type, and what a name means.
use Rattle.std.specs.Prelude.{ℕ, false, List, [], ◌∷◌, codes, None, Result, Ok, Err}
use Rattle.db_model.specs.declared.database.Database.{Database}
use Rattle.db_model.specs.declared.database.VarDecl.{VarDecl}
use Rattle.db_model.specs.declared.element.Element as element
use Rattle.db_model.specs.declared.element.Element.{Element}
use Rattle.db_model.specs.declared.element.FieldForm.TheVariants as form
use Rattle.db_model.specs.declared.env.Env.{Env}
use Rattle.db_model.specs.declared.expression.Expr as expr
use Rattle.db_model.specs.declared.expression.Expr.{Expr}
use Rattle.db_model.specs.declared.expression.Literal.TheVariants as literal
use Rattle.db_model.specs.declared.expression.Operator.TheVariants as op
use Rattle.db_model.specs.declared.expression.TypeFault.{TypeFault}
use Rattle.db_model.specs.declared.expression.TypeFault.TheVariants.{Undeclared, Mistyped, Arity}
use Rattle.db_model.specs.declared.tree.Node.{Node}
use Rattle.db_model.specs.declared.tree.Node.TheVariants.{Field, Note}
use Rattle.db_model.specs.declared.tree.Reason.{Reason}
use Rattle.db_model.specs.declared.tree.Reason.TheVariants.{NoField, Range, Zero, Slice, Size}
use Rattle.db_model.specs.declared.value.Ty.{Ty}
use Rattle.db_model.specs.declared.value.Ty.TheVariants as ty
use Rattle.db_model.specs.declared.value.Value.{Value}
use Rattle.db_model.specs.declared.value.Value.TheVariants.{Num, Buf}
use Rattle.db_model.specs.Decoding.{start_env}
use Rattle.db_model.specs.Expression.{val}
use Rattle.db_model.specs.Names.{Text}
use Rattle.db_model.specs.Questions.{play}
use Rattle.db_model.specs.Typing.{type_of}
use Rattle.db_examples.specs.Cases.{AreAlike, byte, a, b, c, times, choice, number_in, decoded, read}
use Rattle.db_examples.specs.Examples.{gives}
use Rattle.db_examples.specs.Samples.{protocol, database}
use Rattle.db_examples.specs.SessionPackets.{captured}
use Rattle.db_examples.specs.TableSample.{table_db}

-- ---- operators

abbrev pub num : ℕ → Expr
num n = expr.Number n

abbrev pub text : Text → Expr
text bytes = expr.Text bytes

-- one that gives the reason zero, and one that gives the reason range
abbrev pub by_zero : Expr
by_zero = expr.Binary op.Div (num 1) (num 0)

abbrev pub below_zero : Expr
below_zero = expr.Binary op.Sub (num 3) (num 5)

abbrev pub abc : Expr
abc = text (codes "abc")

abbrev pub operations : List (Result Value Reason × Result Value Reason)
operations =
    -- numbers go up to 2 ^ 32 - 1
    (gives (expr.Binary op.Add (num 4294967294) (num 1)), Ok (Num 4294967295))
    ∷ (gives (expr.Binary op.Add (num 4294967295) (num 1)), Err Range)
    ∷ (gives (expr.Binary op.Sub (num 5) (num 3)), Ok (Num 2))
    ∷ (gives (expr.Binary op.Sub (num 5) (num 5)), Ok (Num 0))
    ∷ (gives below_zero, Err Range)
    ∷ (gives (expr.Binary op.Mul (num 65535) (num 65537)), Ok (Num 4294967295))
    ∷ (gives (expr.Binary op.Mul (num 65536) (num 65536)), Err Range)
    ∷ (gives (expr.Binary op.Div (num 7) (num 2)), Ok (Num 3))
    ∷ (gives by_zero, Err Zero)
    ∷ (gives (expr.Binary op.Mod (num 7) (num 4)), Ok (Num 3))
    ∷ (gives (expr.Binary op.Mod (num 0) (num 0)), Err Zero)
    -- 1100 with 1010
    ∷ (gives (expr.Binary op.BitAnd (num 12) (num 10)), Ok (Num 8))
    ∷ (gives (expr.Binary op.BitOr (num 12) (num 10)), Ok (Num 14))
    ∷ (gives (expr.Binary op.Lt (num 1) (num 2)), Ok (Num 1))
    ∷ (gives (expr.Binary op.Lt (num 2) (num 2)), Ok (Num 0))
    ∷ (gives (expr.Binary op.Lt (num 3) (num 2)), Ok (Num 0))
    ∷ (gives (expr.Binary op.Le (num 1) (num 2)), Ok (Num 1))
    ∷ (gives (expr.Binary op.Le (num 2) (num 2)), Ok (Num 1))
    ∷ (gives (expr.Binary op.Le (num 3) (num 2)), Ok (Num 0))
    ∷ (gives (expr.Binary op.Gt (num 1) (num 2)), Ok (Num 0))
    ∷ (gives (expr.Binary op.Gt (num 2) (num 2)), Ok (Num 0))
    ∷ (gives (expr.Binary op.Gt (num 3) (num 2)), Ok (Num 1))
    ∷ (gives (expr.Binary op.Ge (num 1) (num 2)), Ok (Num 0))
    ∷ (gives (expr.Binary op.Ge (num 2) (num 2)), Ok (Num 1))
    ∷ (gives (expr.Binary op.Ge (num 3) (num 2)), Ok (Num 1))
    ∷ (gives (expr.Binary op.Eq (num 7) (num 7)), Ok (Num 1))
    ∷ (gives (expr.Binary op.Eq (num 7) (num 8)), Ok (Num 0))
    ∷ (gives (expr.Binary op.Eq abc abc), Ok (Num 1))
    ∷ (gives (expr.Binary op.Eq abc (text (codes "ab"))), Ok (Num 0))
    -- a protocol is itself alone
    ∷ (gives (expr.Binary op.Eq (expr.Protocol (codes "startproto")) (expr.Protocol (codes "startproto"))), Ok (Num 1))
    ∷ (gives (expr.Binary op.Eq (expr.Protocol (codes "startproto")) (expr.Protocol (codes "ip"))), Ok (Num 0))
    ∷ (gives (expr.Binary op.Ne (num 7) (num 7)), Ok (Num 0))
    ∷ (gives (expr.Binary op.Ne abc (text (codes "abd"))), Ok (Num 1))
    ∷ (gives (expr.Binary op.Ne (expr.Protocol (codes "startproto")) (expr.Protocol (codes "ip"))), Ok (Num 1))
    ∷ []

abbrev pub OperatorsGive : Type 0
OperatorsGive = AreAlike operations

-- ---- the other forms

abbrev pub forms : List (Result Value Reason × Result Value Reason)
forms =
    -- what isn't 0 is so, and the value is 1
    (gives (expr.Or (num 0) (num 5)), Ok (Num 1))
    ∷ (gives (expr.Or (num 0) (num 0)), Ok (Num 0))
    ∷ (gives (expr.And (num 2) (num 4)), Ok (Num 1))
    ∷ (gives (expr.And (num 2) (num 0)), Ok (Num 0))
    ∷ (gives (expr.Not (num 0)), Ok (Num 1))
    ∷ (gives (expr.Not (num 7)), Ok (Num 0))
    -- the right side is left alone exactly where the left one decides
    ∷ (gives (expr.Or (num 5) by_zero), Ok (Num 1))
    ∷ (gives (expr.Or (num 0) by_zero), Err Zero)
    ∷ (gives (expr.And (num 0) by_zero), Ok (Num 0))
    ∷ (gives (expr.And (num 5) by_zero), Err Zero)
    -- the first reason from the left
    ∷ (gives (expr.Binary op.Add by_zero below_zero), Err Zero)
    ∷ (gives (expr.Binary op.Add below_zero by_zero), Err Range)
    ∷ (gives (expr.Slice abc below_zero by_zero), Err Range)
    ∷ (gives (expr.Slice (text []) (num 9) by_zero), Err Zero)
    -- from a place, so many bytes
    ∷ (gives (expr.Slice abc (num 0) (num 2)), Ok (Buf (codes "ab")))
    ∷ (gives (expr.Slice abc (num 2) (num 1)), Ok (Buf (codes "c")))
    ∷ (gives (expr.Slice abc (num 3) (num 0)), Ok (Buf []))
    ∷ (gives (expr.Slice abc (num 4) (num 0)), Err Slice)
    -- the first byte is the highest; 1 to 4 bytes are a number
    ∷ (gives (expr.ToNumber (text (1 ∷ []))), Ok (Num 1))
    ∷ (gives (expr.ToNumber (text (1 ∷ 2 ∷ 3 ∷ 4 ∷ []))), Ok (Num 0x01020304))
    ∷ (gives (expr.ToNumber (text (0 ∷ 0 ∷ 0 ∷ 0 ∷ 1 ∷ []))), Err Size)
    ∷ (gives (expr.LengthOf abc), Ok (Num 3))
    ∷ (gives (expr.LengthOf (text [])), Ok (Num 0))
    ∷ (gives (expr.ToBytes (num 258) 2), Ok (Buf (1 ∷ 2 ∷ [])))
    ∷ (gives (expr.ToBytes (num 1) 4), Ok (Buf (0 ∷ 0 ∷ 0 ∷ 1 ∷ [])))
    ∷ (gives (expr.ToBytes (num 255) 1), Ok (Buf (255 ∷ [])))
    ∷ (gives (expr.ToBytes (num 65536) 2), Err Range)
    ∷ (gives (expr.ToBytes (num 4294967295) 4), Ok (Buf (255 ∷ 255 ∷ 255 ∷ 255 ∷ [])))
    -- the empty text stands everywhere
    ∷ (gives (expr.HasText abc (codes "bc")), Ok (Num 1))
    ∷ (gives (expr.HasText abc (codes "ac")), Ok (Num 0))
    ∷ (gives (expr.HasText abc (codes "bcd")), Ok (Num 0))
    ∷ (gives (expr.HasText abc []), Ok (Num 1))
    ∷ (gives (expr.HasText (text []) []), Ok (Num 1))
    ∷ (gives (expr.HasText (text []) (codes "a")), Ok (Num 0))
    ∷ []

abbrev pub FormsGive : Type 0
FormsGive = AreAlike forms

-- ---- special variables

-- a variable declared under the name of a special one
abbrev pub declared_special : VarDecl
declared_special = record { line = 2; name = codes "linktype"; ty = ty.Buf; value = literal.Text (9 ∷ []); validity = None }

abbrev pub special_db : Database
special_db = record (database (protocol 3 (codes "startproto") None None None ∷ [])) { variables = declared_special ∷ [] }

-- at position 2, in a protocol that began at 1, of a packet of three captured bytes that had 60 on the wire
abbrev pub in_the_middle : Env
in_the_middle = record (start_env special_db (record (captured 5 7 (1 ∷ 2 ∷ 3 ∷ [])) { link = 113; length = 60 })) { at = 2; origin = 1; limit = 3 }

abbrev pub variable_in_the_middle : Text → Result Value Reason
variable_in_the_middle name = (play special_db 0 (val special_db [] (expr.Variable name) in_the_middle) []).result.0

abbrev pub specials : List (Result Value Reason × Result Value Reason)
specials =
    (variable_in_the_middle (codes "packet"), Ok (Buf (1 ∷ 2 ∷ 3 ∷ [])))
    ∷ (variable_in_the_middle (codes "packetlength"), Ok (Num 3))
    ∷ (variable_in_the_middle (codes "currentoffset"), Ok (Num 2))
    ∷ (variable_in_the_middle (codes "protooffset"), Ok (Num 1))
    -- the special one, and not the declared one
    ∷ (variable_in_the_middle (codes "linktype"), Ok (Num 113))
    ∷ []

abbrev pub SpecialsGive : Type 0
SpecialsGive = AreAlike specials

-- ---- what a name means

abbrev pub n : Element
n = byte (codes "n")

-- a field as long as the number in `n` says
abbrev pub as_n_says : Element
as_n_says = element.Field 3 (codes "v") (form.Variable (number_in (codes "n"))) None None

abbrev pub names : List ((ℕ × List Node) × (ℕ × List Node))
names =
    -- of two fields of the name the one that was decoded last
    (decoded (n ∷ n ∷ as_n_says ∷ []) (1 ∷ 2 ∷ 7 ∷ 8 ∷ 9 ∷ []), (4, read 0 0 1 ∷ read 1 1 2 ∷ Field 2 2 2 (7 ∷ 8 ∷ []) ∷ []))
    -- also where it stands first in the text
    ∷ (decoded (times 2 (choice (expr.IsPresent (codes "a")) (n ∷ []) (a ∷ n ∷ []) ∷ []) ∷ as_n_says ∷ []) (9 ∷ 1 ∷ 2 ∷ 7 ∷ 8 ∷ []), (5, read 1 0 9 ∷ read 2 1 1 ∷ read 0 2 2 ∷ Field 3 3 2 (7 ∷ 8 ∷ []) ∷ []))
    -- a field of another name doesn't count
    ∷ (decoded (n ∷ a ∷ as_n_says ∷ []) (1 ∷ 2 ∷ 7 ∷ 8 ∷ []), (3, read 0 0 1 ∷ read 1 1 2 ∷ read 2 2 7 ∷ []))
    -- one that was left out isn't there, whichever of the name it is
    ∷ (decoded (choice (expr.Number 0) (n ∷ []) (n ∷ []) ∷ as_n_says ∷ []) (1 ∷ 7 ∷ []), (2, read 1 0 1 ∷ read 2 1 7 ∷ []))
    ∷ (decoded (choice (expr.Number 0) (n ∷ []) [] ∷ as_n_says ∷ []) (1 ∷ 7 ∷ []), (0, Note NoField 0 ∷ []))
    ∷ (decoded (choice (expr.Number 0) (n ∷ []) [] ∷ choice (expr.IsPresent (codes "n")) (b ∷ []) (c ∷ []) ∷ []) (1 ∷ []), (1, read 2 0 1 ∷ []))
    ∷ []

abbrev pub NamesMean : Type 0
NamesMean = AreAlike names

-- ---- types

-- a look-up with two keys, in a table of one
abbrev pub wrong_arity : Expr
wrong_arity = expr.LookUp (codes "t") false (text (1 ∷ []) ∷ text (2 ∷ []) ∷ [])

abbrev pub type_in : Expr → Result Ty TypeFault
type_in e = type_of table_db (codes "f" ∷ []) e

abbrev pub types : List (Result Ty TypeFault × Result Ty TypeFault)
types =
    (type_in (expr.Binary op.Add (num 1) (num 2)), Ok ty.Num)
    ∷ (type_in (expr.Field (codes "f")), Ok ty.Buf)
    ∷ (type_in (expr.Protocol (codes "op")), Ok ty.Proto)
    ∷ (type_in (expr.Column (codes "t") (codes "d")), Ok ty.Buf)
    ∷ (type_in (expr.LookUp (codes "t") false (expr.Field (codes "f") ∷ [])), Ok ty.Num)
    -- two sides of one type, whichever it is
    ∷ (type_in (expr.Binary op.Eq (expr.Protocol (codes "op")) (expr.Protocol (codes "op"))), Ok ty.Num)
    ∷ (type_in (expr.Binary op.Eq (num 1) abc), Err Mistyped)
    ∷ (type_in (expr.Binary op.Lt abc abc), Err Mistyped)
    ∷ (type_in (expr.Or (num 1) abc), Err Mistyped)
    ∷ (type_in (expr.LookUp (codes "t") false (num 1 ∷ [])), Err Mistyped)
    -- a name that isn't declared comes before a wrong number of keys, and that before types that don't fit
    ∷ (type_in wrong_arity, Err Arity)
    ∷ (type_in (expr.Binary op.Add wrong_arity (expr.Field (codes "g"))), Err Undeclared)
    ∷ (type_in (expr.Binary op.Add (expr.Field (codes "g")) abc), Err Undeclared)
    ∷ (type_in (expr.Binary op.Add abc wrong_arity), Err Arity)
    -- the name of a key isn't that of a column
    ∷ (type_in (expr.Column (codes "t") (codes "k")), Err Undeclared)
    ∷ (type_in (expr.IsPresent (codes "g")), Err Undeclared)
    ∷ []

abbrev pub TypesFit : Type 0
TypesFit = AreAlike types
