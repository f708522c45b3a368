-- The canonical text of an expression.
use Rattle.std.specs.Prelude.{◌≡◌, ◌<◌, ◌≤◌, ℕ, Bool, true, false, ◌||◌, ◌==◌, if◌then◌else◌, List, [], ◌∷◌, ◌++◌, length, codes}
use Rattle.std.specs.Fmt.{decimal}
use Rattle.hex.specs.Hex.{encode_lower}
use Rattle.db_model.specs.declared.expression.Expr.{Expr, Expr-F}
use Rattle.db_model.specs.declared.expression.Expr.TheOpen as layer
use Rattle.db_model.specs.declared.expression.Operator.{Operator}
use Rattle.db_model.specs.declared.expression.Operator.TheVariants as op
use Rattle.db_model.specs.declared.naming.ReservedWord.{ReservedWord}
use Rattle.db_model.specs.declared.naming.ReservedWord.TheVariants as word
use Rattle.db_model.specs.Folds.{fold_expr}
use Rattle.db_model.specs.Forms.{is_between, is_expression}
use Rattle.db_model.specs.Name.{spelling}
use Rattle.db_model.specs.Names.{Text}
use Rattle.expr_text.specs.declared.limits.TheConstants.{MOST_EXPRESSION_BYTES}
use Rattle.expr_text.specs.Refusal.{IsSpelled, IsText, IsRefused}

-- ---- texts

-- a byte between quotes: printable ones as they are, a quote and a `\` behind a `\`, all others as two hex digits
unfoldable pub escaped : ℕ → List ℕ
escaped b =
    if b == 0x27 || b == 0x5c then codes "\\" ++ b ∷ []
    else (if is_between 0x20 0x7e b then b ∷ [] else codes "\\x" ++ encode_lower (b ∷ []))

abbrev pub all_escaped : List ℕ → List ℕ
all_escaped [] = []
all_escaped (b ∷ bs) = escaped b ++ all_escaped bs

unfoldable pub quoted : List ℕ → List ℕ
quoted b = codes "'" ++ (all_escaped b ++ codes "'")

-- ---- operators

-- a word with a space on each side
abbrev pub spaced : ReservedWord → List ℕ
spaced w = codes " " ++ (spelling w ++ codes " ")

-- an operator with a space on each side
unfoldable pub operator_text : Operator → List ℕ
operator_text op.Add = codes " + "
operator_text op.Sub = codes " - "
operator_text op.Mul = codes " * "
operator_text op.Div = codes " / "
operator_text op.Mod = spaced word.Mod
operator_text op.BitAnd = spaced word.BitAnd
operator_text op.BitOr = spaced word.BitOr
operator_text op.Lt = spaced word.Lt
operator_text op.Le = spaced word.Le
operator_text op.Gt = spaced word.Gt
operator_text op.Ge = spaced word.Ge
operator_text op.Eq = codes " == "
operator_text op.Ne = codes " != "

-- ---- expressions

-- the text of an expression, and whether that is a binary operation or a `not`
pub record Printed : Type 0 where
  pub is_compound : Bool
  pub bytes : List ℕ

abbrev pub compound : List ℕ → Printed
compound bytes = record { is_compound = true; bytes = bytes }

abbrev pub simple : List ℕ → Printed
simple bytes = record { is_compound = false; bytes = bytes }

unfoldable pub in_parentheses : List ℕ → List ℕ
in_parentheses bytes = codes "(" ++ (bytes ++ codes ")")

-- an operand, or the base of a slice, stands in parentheses where it is a binary operation or a `not`
abbrev pub operand : Printed → List ℕ
operand p = if p.is_compound then in_parentheses p.bytes else p.bytes

unfoldable pub look_up_name : Bool → List ℕ
look_up_name true = spelling word.RenewingLookUp
look_up_name false = spelling word.LookUp

-- arguments behind the first one, each behind a comma and a space
abbrev pub arguments : List Printed → List ℕ
arguments [] = []
arguments (p ∷ ps) = codes ", " ++ (p.bytes ++ arguments ps)

unfoldable pub protocol_text : Text → List ℕ
protocol_text name = codes "#" ++ name

unfoldable pub variable_text : Text → List ℕ
variable_text name = codes "$" ++ name

unfoldable pub column_text : Text → Text → List ℕ
column_text table column = codes "$" ++ (table ++ (codes "." ++ column))

unfoldable pub negation : List ℕ → List ℕ
negation a = spelling word.Not ++ (codes " " ++ a)

unfoldable pub conjunction : List ℕ → List ℕ → List ℕ
conjunction a b = a ++ (spaced word.And ++ b)

unfoldable pub disjunction : List ℕ → List ℕ → List ℕ
disjunction a b = a ++ (spaced word.Or ++ b)

unfoldable pub slice_text : List ℕ → List ℕ → List ℕ → List ℕ
slice_text base from count = base ++ (codes "[" ++ (from ++ (codes ":" ++ (count ++ codes "]"))))

unfoldable pub number_call : List ℕ → List ℕ
number_call a = spelling word.ToNumber ++ in_parentheses a

unfoldable pub length_call : List ℕ → List ℕ
length_call a = spelling word.LengthOf ++ in_parentheses a

unfoldable pub bytes_call : List ℕ → ℕ → List ℕ
bytes_call a size = spelling word.ToBytes ++ in_parentheses (a ++ (codes ", " ++ decimal size))

unfoldable pub text_call : List ℕ → List ℕ → List ℕ
text_call a b = spelling word.HasText ++ in_parentheses (a ++ (codes ", " ++ quoted b))

unfoldable pub presence_call : Text → List ℕ
presence_call name = spelling word.IsPresent ++ in_parentheses name

unfoldable pub look_up_call : Bool → Text → List ℕ → List ℕ
look_up_call renew table more = look_up_name renew ++ in_parentheses (table ++ more)

abbrev pub printed_step : Expr-F Printed → Printed
printed_step (layer.Number n) = simple (decimal n)
printed_step (layer.Text b) = simple (quoted b)
printed_step (layer.Protocol name) = simple (protocol_text name)
printed_step (layer.Field name) = simple name
printed_step (layer.Variable name) = simple (variable_text name)
printed_step (layer.Column table column) = simple (column_text table column)
printed_step (layer.Not a) = compound (negation (operand a))
printed_step (layer.And a b) = compound (conjunction (operand a) (operand b))
printed_step (layer.Or a b) = compound (disjunction (operand a) (operand b))
printed_step (layer.Binary o a b) = compound (operand a ++ (operator_text o ++ operand b))
printed_step (layer.Slice b from count) = simple (slice_text (operand b) from.bytes count.bytes)
printed_step (layer.ToNumber a) = simple (number_call a.bytes)
printed_step (layer.LengthOf a) = simple (length_call a.bytes)
printed_step (layer.ToBytes a size) = simple (bytes_call a.bytes size)
printed_step (layer.HasText a b) = simple (text_call a.bytes b)
printed_step (layer.IsPresent name) = simple (presence_call name)
printed_step (layer.LookUp table renew ks) = simple (look_up_call renew table (arguments ks))

abbrev pub printing : Expr → Printed
printing = fold_expr Printed printed_step

-- the canonical text
unfoldable pub printed : Expr → List ℕ
printed e = (printing e).bytes

-- ---- what it says of texts

-- the canonical text of a well-formed expression spells it
abbrev pub ReadsBack : Type 0
ReadsBack = (e : Expr) → is_expression e ≡ true → IsSpelled (printed e) e

-- so does that of each expression that some text spells, however large it is
abbrev pub ReadsBackSpelled : Type 0
ReadsBackSpelled = (e : Expr) (bytes : List ℕ) → IsSpelled bytes e → IsSpelled (printed e) e

-- no two expressions that some text spells have one canonical text
abbrev pub PrintsApart : Type 0
PrintsApart = (d e : Expr) (bytes others : List ℕ) → IsSpelled bytes d → IsSpelled others e → printed d ≡ printed e → d ≡ e

-- where it isn't too long it is the text of a well-formed expression, and a longer text is refused
abbrev pub PrintsTexts : Type 0
PrintsTexts = (e : Expr) → is_expression e ≡ true → length (printed e) ≤ MOST_EXPRESSION_BYTES → IsText (printed e) e

abbrev pub RefusesLong : Type 0
RefusesLong = (e : Expr) → MOST_EXPRESSION_BYTES < length (printed e) → IsRefused (printed e) 0 4
