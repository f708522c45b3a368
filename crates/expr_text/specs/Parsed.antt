-- The expression of a text, as a function. It gives one exactly where `IsText` says that the text is that of one: `parsed_is_text` is that law.
use Rattle.std.specs.Prelude.{◌≡◌, ℕ, nat_le, if◌then◌else◌, List, length, Option, Some, None, Result, Ok, Err}
use Rattle.db_model.specs.declared.expression.Expr.{Expr}
use Rattle.expr_text.specs.declared.fail.ExprFail.{ExprFail}
use Rattle.expr_text.specs.declared.fail.ExprFail.TheVariants as fail
use Rattle.expr_text.specs.declared.limits.TheConstants.{MOST_EXPRESSION_BYTES}
use Rattle.expr_text.specs.Lexing.{lexemes}
use Rattle.expr_text.specs.Machine.{start}
use Rattle.expr_text.specs.Outcome.{Answer, outcome}
use Rattle.expr_text.specs.Sizes.{small}

-- an expression that is small enough
abbrev pub small_one : Answer → Option Expr
small_one (Ok e) = if small e then Some e else None
small_one (Err f) = None

-- the expression of a text within all limits
unfoldable pub parsed : List ℕ → Option Expr
parsed bytes = if nat_le (length bytes) MOST_EXPRESSION_BYTES then small_one (outcome (length bytes) start (lexemes bytes)) else None

-- an expression is the parsed one, and a fault comes where there is none
abbrev pub IsParsed : List ℕ → Result Expr ExprFail → Type 0
IsParsed bytes (Ok e) = parsed bytes ≡ Some e
IsParsed bytes (Err (fail.Fault at code)) = parsed bytes ≡ None
IsParsed bytes (Err fail.NoMemory) = Unit {0}
