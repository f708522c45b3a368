-- The laws of the answers: each excludes every other, every text has one, and an expression that is read is well formed.
use Rattle.std.specs.Prelude.{◌≡◌, ◌↔◌, ◌⊎◌, ℕ, true, List, Some}
use Rattle.db_model.specs.declared.expression.Expr.{Expr}
use Rattle.db_model.specs.Forms.{is_expression}
use Rattle.expr_text.specs.declared.token.Token.{Token}
use Rattle.expr_text.specs.Grammar.{Spells}
use Rattle.expr_text.specs.Parsed.{parsed}
use Rattle.expr_text.specs.Refusal.{IsText, IsRefused}

-- tokens spell one expression at most
abbrev pub OneExpression : Type 0
OneExpression = (e f : Expr) (ts : List Token) → Spells e ts → Spells f ts → e ≡ f

-- a text is that of one expression at most
abbrev pub OneText : Type 0
OneText = (bytes : List ℕ) (e f : Expr) → IsText bytes e → IsText bytes f → e ≡ f

-- a text that is an expression's is not refused
abbrev pub ExcludesRefusal : Type 0
ExcludesRefusal = (bytes : List ℕ) (e : Expr) (at code : ℕ) → IsText bytes e → IsRefused bytes at code → ⊥

-- a text is refused at one place and with one code at most
abbrev pub OneRefusal : Type 0
OneRefusal = (bytes : List ℕ) (at code at' code' : ℕ) → IsRefused bytes at code → IsRefused bytes at' code' → (at ≡ at') × (code ≡ code')

-- every text is that of an expression, or is refused
abbrev pub HasAnswer : Type 0
HasAnswer = (bytes : List ℕ) → ((e : Expr) × IsText bytes e) ⊎ ((at : ℕ) × (code : ℕ) × IsRefused bytes at code)

-- the function of the definitions gives an expression exactly where the text is that of the expression
abbrev pub ParsedIsText : Type 0
ParsedIsText = (bytes : List ℕ) (e : Expr) → (parsed bytes ≡ Some e) ↔ IsText bytes e

-- the expression of a text is well formed: its names, numbers and texts have their form, and it is small enough
abbrev pub IsWellFormed : Type 0
IsWellFormed = (bytes : List ℕ) (e : Expr) → IsText bytes e → is_expression e ≡ true
