-- What the machine makes of the lexemes of a text. Only `parsed` goes by it.
use Rattle.std.specs.Prelude.{◌≡◌, ◌<◌, ◌≤◌, ◌+◌, ℕ, Bool, true, false, List, [], ◌∷◌, length, drop, Option, Some, None, Result, Ok, Err}
use Rattle.db_model.specs.declared.expression.Expr.{Expr}
use Rattle.expr_text.specs.declared.advance.Advance.{Advance}
use Rattle.expr_text.specs.declared.fail.ExprFail.{ExprFail}
use Rattle.expr_text.specs.declared.fail.ExprFail.TheVariants as fail
use Rattle.expr_text.specs.declared.lexeme.Lexeme.{Lexeme}
use Rattle.expr_text.specs.declared.lexeme.Lexeme.TheVariants as lexeme
use Rattle.expr_text.specs.declared.lexeme.Scanned.{Scanned}
use Rattle.expr_text.specs.declared.state.State.{State}
use Rattle.expr_text.specs.declared.token.Token.TheVariants as token
use Rattle.expr_text.specs.Lexing.{Placed, scanned, front_of, is_space, lexed}
use Rattle.expr_text.specs.Machine.{step, ended}
use Rattle.expr_text.specs.Sizes.{small}

-- an expression, or the place and the code of a fault
abbrev pub Answer : Type 0
Answer = Result Expr (ℕ × ℕ)

-- the next state, or a fault where there is none
abbrev pub or_fault : ℕ → ℕ → (State → Answer) → Option State → Answer
or_fault here code next None = Err (here, code)
or_fault here code next (Some s) = next s

-- one lexeme at `here`, in a text of n bytes
abbrev pub after : ℕ → ℕ → State → Lexeme → (State → Answer) → Answer
after n here s (lexeme.Token t) next = or_fault here 1 next (step s t)
after n here s lexeme.Nothing next = Err (here, 1)
after n here s lexeme.TooGreat next = Err (here, 3)
after n here s lexeme.Unfinished next = or_fault here 1 (λ _. Err (n, 2)) (step s (token.Text []))

abbrev pub at_end : ℕ → Option Expr → Answer
at_end n None = Err (n, 2)
at_end n (Some e) = Ok e

unfoldable pub outcome : ℕ → State → List Placed → Answer
outcome n s [] = at_end n (ended (Some s))
outcome n s (p ∷ ps) = after n p.at s p.lexeme (λ s'. outcome n s' ps)

-- ---- what the parser's functions answer

-- the answer is the outcome
abbrev pub Told : Result Expr ExprFail → Answer → Type 0
Told (Ok e) a = a ≡ Ok e
Told (Err (fail.Fault at code)) a = a ≡ Err (at, code)
Told (Err fail.NoMemory) a = Unit {0}

-- the lexeme was taken, or is at fault
abbrev pub Handled : ℕ → ℕ → State → Lexeme → Result (Unit {0}) ExprFail → State → Type 0
Handled n here s l (Ok u) z = (next : State → Answer) → after n here s l next ≡ next z
Handled n here s l (Err (fail.Fault at code)) z = (next : State → Answer) → after n here s l next ≡ Err (at, code)
Handled n here s l (Err fail.NoMemory) z = Unit {0}

abbrev pub front : Bool → List ℕ → Scanned
front glued [] = scanned lexeme.Nothing 1
front glued (b ∷ bs) = front_of glued b bs

abbrev pub begins_with_space : List ℕ → Bool
begins_with_space [] = false
begins_with_space (b ∷ bs) = is_space b

-- some bytes of the rest were taken, and the outcome of what is left is the same; or one of them is at fault
abbrev pub Advanced : ℕ → ℕ → Bool → State → List ℕ → Result Advance ExprFail → State → Type 0
Advanced n here glued s rest (Ok t) z =
    (0 < t.size) × (t.size ≤ length rest)
    × (outcome n s (lexed here 0 glued rest) ≡ outcome n z (lexed (here + t.size) 0 t.glued (drop t.size rest)))
Advanced n here glued s rest (Err (fail.Fault at code)) z = outcome n s (lexed here 0 glued rest) ≡ Err (at, code)
Advanced n here glued s rest (Err fail.NoMemory) z = Unit {0}

-- an expression of a text of n bytes, unless it is too large
abbrev pub Judged : Expr → ℕ → Result Expr ExprFail → Type 0
Judged e n (Ok f) = (f ≡ e) × (small e ≡ true)
Judged e n (Err (fail.Fault at code)) = (at ≡ n) × (code ≡ 4) × (small e ≡ false)
Judged e n (Err fail.NoMemory) = ⊥
