-- A step of the machine, by what its parts answered.
use Rattle.std.proofs.Common.{◌≡◌, ◌≤◌, ◌<◌, [], ◌∷◌, Option, None, subst, sym, ap, ◌∙◌}
use Rattle.std.proofs.lemmas.Bool.{le-leb, lt-leb}
use Rattle.std.specs.Prelude.{IfOk, Result}
use Rattle.db_model.specs.declared.expression.Expr.{Expr}
use Rattle.expr_text.specs.declared.machine.Begun.TheVariants as begun
use Rattle.expr_text.specs.declared.machine.Mode.{Mode}
use Rattle.expr_text.specs.declared.state.State.{State}
use Rattle.expr_text.specs.declared.token.BinaryOp.{BinaryOp}
use Rattle.expr_text.specs.Machine.{Stack, Joined, now, wants, frame, joined, wanted, when, operator}
use Rattle.expr_text.specs.Tokens.{level_of}

-- what was answered is the state that is meant, where that is the same state
pub meant : {E : Type 0} (r : Result (Option Mode) E) (k : Stack) (x y : Option State) → x ≡ y → IfOk r (λ mode. now mode k ≡ x) → IfOk r (λ mode. now mode k ≡ y)
meant r k x y e h = subst (λ z. IfOk r (λ mode. now mode k ≡ z)) e h

-- an operator that the place admits, and one that it doesn't
pub admitted : (o : BinaryOp) (left : Expr) (k : Stack) (j : Joined) → joined left k ≡ j → wanted k ≤ level_of o → wants (frame (begun.Operand o) (left ∷ []) ∷ k) ≡ operator o j
admitted o left k j e h = sym (ap (λ b. when b (wants (frame (begun.Operand o) (left ∷ []) ∷ k))) (le-leb (wanted k) (level_of o) h)) ∙ ap (operator o) e

pub not_admitted : (o : BinaryOp) (left : Expr) (k : Stack) (j : Joined) → joined left k ≡ j → level_of o < wanted k → None ≡ operator o j
not_admitted o left k j e h = sym (ap (λ b. when b (wants (frame (begun.Operand o) (left ∷ []) ∷ k))) (lt-leb (wanted k) (level_of o) h)) ∙ ap (operator o) e
