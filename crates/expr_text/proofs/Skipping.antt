-- How the lexemes of a text go on behind a space and behind a lexeme.
use Rattle.std.proofs.Common.{◌≡◌, ◌≤◌, ◌<◌, ◌+◌, ℕ, zero, suc, pred, Bool, true, false, if◌then◌else◌, List, [], ◌∷◌, length, drop, Some, Result, Ok, Err, refl, sym, ap, subst, ◌∙◌, arith}
use Rattle.db_model.specs.declared.expression.Expr.{Expr}
use Rattle.expr_text.specs.declared.fail.ExprFail.{ExprFail}
use Rattle.expr_text.specs.declared.fail.ExprFail.TheVariants as fail
use Rattle.expr_text.specs.declared.lexeme.Lexeme.{Lexeme}
use Rattle.expr_text.specs.declared.lexeme.Scanned.{Scanned}
use Rattle.expr_text.specs.declared.state.State.{State}
use Rattle.expr_text.specs.Lexing.{Placed, is_number, front_of, lexed}
use Rattle.expr_text.specs.Machine.{ended}
use Rattle.expr_text.specs.Outcome.{Answer, after, at_end, outcome, Told, Handled, front, begins_with_space, Advanced}

skipped : (at k : ℕ) (glued : Bool) (bs : List ℕ) → lexed at k glued bs ≡ lexed (at + k) 0 glued (drop k bs)
unfolding lexed
skipped at zero glued bs = ap (λ n. lexed n 0 glued bs) (omega arith)
skipped at (suc k) glued [] = refl
skipped at (suc k) glued (b ∷ bs) = skipped (suc at) k glued bs ∙ ap (λ n. lexed n 0 glued (drop k bs)) (omega arith)

placed : Lexeme → ℕ → Placed
placed l at = record { lexeme = l; at = at }

pub at_space : (at : ℕ) (glued : Bool) (bs : List ℕ) → begins_with_space bs ≡ true → lexed at 0 glued bs ≡ lexed (at + 1) 0 false (drop 1 bs)
unfolding lexed
at_space at glued [] h = cc
at_space at glued (b ∷ bs) h =
    ap (λ t. if t then lexed (suc at) 0 false bs else (record { lexeme = (front_of glued b bs).lexeme; at = at } ∷ lexed (suc at) (pred (front_of glued b bs).size) (is_number (front_of glued b bs).lexeme) bs)) h
    ∙ ap (λ n. lexed n 0 false bs) (omega arith)

pub at_lexeme : (at : ℕ) (glued : Bool) (bs : List ℕ) → begins_with_space bs ≡ false → 0 < length bs → 0 < (front glued bs).size
    → lexed at 0 glued bs ≡ record { lexeme = (front glued bs).lexeme; at = at } ∷ lexed (at + (front glued bs).size) 0 (is_number (front glued bs).lexeme) (drop (front glued bs).size bs)
unfolding lexed
at_lexeme at glued [] h some size = absurd (omega arith)
at_lexeme at glued (b ∷ bs) h some size =
    let l = front_of glued b bs in
    ap (λ t. if t then lexed (suc at) 0 false bs else (record { lexeme = l.lexeme; at = at } ∷ lexed (suc at) (pred l.size) (is_number l.lexeme) bs)) h
    ∙ ap (λ x. record { lexeme = l.lexeme; at = at } ∷ x) (skipped (suc at) (pred l.size) (is_number l.lexeme) bs ∙ behind l.size size)
  where
    behind : (n : ℕ) → 0 < n → lexed (suc at + pred n) 0 (is_number (front_of glued b bs).lexeme) (drop (pred n) bs) ≡ lexed (at + n) 0 (is_number (front_of glued b bs).lexeme) (drop n (b ∷ bs))
    behind zero h = absurd (omega arith)
    behind (suc n) h = ap (λ k. lexed k 0 (is_number (front_of glued b bs).lexeme) (drop n bs)) (omega arith)

-- ---- what the parser's answers say of the outcome

pub advanced_space : (n here : ℕ) (glued : Bool) (s : State) (rest : List ℕ) → 0 < length rest → begins_with_space rest ≡ true
    → Advanced n here glued s rest (Ok (record { size = 1; glued = false })) s
advanced_space n here glued s rest some h = (omega arith, omega arith, ap (outcome n s) (at_space here glued rest h))

module _ (n here : ℕ) (glued : Bool) (s : State) (rest : List ℕ) (space : begins_with_space rest ≡ false) (some : 0 < length rest) where
  -- the outcome by the lexeme at the front
  by_lexeme : (l : Scanned) → l ≡ front glued rest → 0 < l.size
      → outcome n s (lexed here 0 glued rest) ≡ after n here s l.lexeme (λ s'. outcome n s' (lexed (here + l.size) 0 (is_number l.lexeme) (drop l.size rest)))
  unfolding outcome
  by_lexeme l e size = rw e (ap (outcome n s) (at_lexeme here glued rest space some (rw e at size)))

  pub advanced_lexeme : (l : Scanned) → l ≡ front glued rest → 0 < l.size → l.size ≤ length rest → (u : Unit {0}) (z : State) → Handled n here s l.lexeme (Ok u) z
      → Advanced n here glued s rest (Ok (record { size = l.size; glued = is_number l.lexeme })) z
  advanced_lexeme l e size within u z h = (size, within, by_lexeme l e size ∙ h (λ s'. outcome n s' (lexed (here + l.size) 0 (is_number l.lexeme) (drop l.size rest))))

  pub advanced_fault : (l : Scanned) → l ≡ front glued rest → 0 < l.size → (f : ExprFail) (z : State) → Handled n here s l.lexeme (Err f) z
      → Advanced n here glued s rest (Err f) z
  advanced_fault l e size (fail.Fault at code) z h = by_lexeme l e size ∙ h (λ s'. outcome n s' (lexed (here + l.size) 0 (is_number l.lexeme) (drop l.size rest)))
  advanced_fault l e size fail.NoMemory z h = tt

-- a fault of what is left is the whole's
pub told_fault : (n here : ℕ) (glued : Bool) (s : State) (rest : List ℕ) (a : Answer) (f : ExprFail) (z : State) → Advanced n here glued s rest (Err f) z → outcome n s (lexed here 0 glued rest) ≡ a → Told (Err f) a
told_fault n here glued s rest a (fail.Fault at code) z h e = sym e ∙ h
told_fault n here glued s rest a fail.NoMemory z h e = tt

-- what is told where nothing is left is told of the whole
pub told_end : (n at : ℕ) (glued : Bool) (s : State) (rest : List ℕ) (a : Answer) (r : Result Expr ExprFail) → length rest ≤ 0
    → outcome n s (lexed at 0 glued rest) ≡ a → Told r (at_end n (ended (Some s))) → Told r a
unfolding outcome lexed
told_end n at glued s [] a r h e t = subst (Told r) e t
told_end n at glued s (b ∷ bs) a r h e t = absurd (omega arith)
