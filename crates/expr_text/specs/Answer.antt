-- What an answer of the parser says of the text.
use Rattle.std.specs.Prelude.{ℕ, List, Result, Ok, Err}
use Rattle.db_model.specs.declared.expression.Expr.{Expr}
use Rattle.expr_text.specs.declared.fail.ExprFail.{ExprFail}
use Rattle.expr_text.specs.declared.fail.ExprFail.TheVariants as fail
use Rattle.expr_text.specs.Refusal.{IsText, IsRefused}

-- an expression is that of the text, and a fault is the text's first one; want of memory is free
abbrev pub Answers : List ℕ → Result Expr ExprFail → Type 0
Answers bytes (Ok e) = IsText bytes e
Answers bytes (Err (fail.Fault at code)) = IsRefused bytes at code
Answers bytes (Err fail.NoMemory) = Unit {0}
