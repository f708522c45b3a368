-- What of an expression can be had by numbers alone.
use Rattle.std.specs.Prelude.{◌≡◌, Bool, true, false}
use Rattle.db_model.specs.declared.expression.Operator.{Operator}
use Rattle.db_model.specs.declared.expression.Operator.TheVariants as op
use Rattle.db_model.specs.declared.value.Value.{Value}
use Rattle.db_model.specs.declared.value.Value.TheVariants.{Num}
use Rattle.db_model.specs.Expression.{Eval, ◌>>=◌, give, result, num, binary}

-- an operator that looks at the types of its sides
abbrev pub compares : Operator → Bool
compares op.Add = false
compares op.Sub = false
compares op.Mul = false
compares op.Div = false
compares op.Mod = false
compares op.BitAnd = false
compares op.BitOr = false
compares op.Lt = false
compares op.Le = false
compares op.Gt = false
compares op.Ge = false
compares op.Eq = true
compares op.Ne = true

-- each value of a computation is a number
abbrev pub IsNumber : Eval Value → Type 0
IsNumber p = p ≡ (p >>= (λ v. give (Num (num v))))

-- an operation gives the same where both sides are taken as numbers
abbrev pub ByNumbers : Operator → Eval Value → Eval Value → Type 0
ByNumbers o p q = (p >>= (λ v. q >>= (λ w. result (binary o v w)))) ≡ (p >>= (λ v. q >>= (λ w. result (binary o (Num (num v)) (Num (num w))))))
