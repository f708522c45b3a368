-- Which texts are expressions, and for every other the place and the code of its first fault from the left.
use Rattle.std.specs.Prelude.{ℕ, ◌<◌, ◌≤◌, ◌≡◌, ◌⊎◌, List, [], ◌∷◌, ◌++◌, length}
use Rattle.db_model.specs.declared.expression.Expr.{Expr}
use Rattle.db_model.specs.declared.limits.TheConstants.{MOST_EXPRESSION_NODES, MOST_EXPRESSION_DEPTH}
use Rattle.db_model.specs.Forms.{nodes_of, depth_of}
use Rattle.expr_text.specs.declared.lexeme.Lexeme.{Lexeme}
use Rattle.expr_text.specs.declared.lexeme.Lexeme.TheVariants as lexeme
use Rattle.expr_text.specs.declared.limits.TheConstants.{MOST_EXPRESSION_BYTES}
use Rattle.expr_text.specs.declared.token.Token.{Token}
use Rattle.expr_text.specs.declared.token.Token.TheVariants as token
use Rattle.expr_text.specs.Grammar.{Spells}
use Rattle.expr_text.specs.Lexing.{Placed, lexemes, AreTokens}

-- ---- texts of the grammar

-- the text spells the expression
pub record IsSpelled (bytes : List ℕ) (e : Expr) : Type 0 where
  pub tokens : List Token
  pub are : AreTokens (lexemes bytes) tokens
  pub spells : Spells e tokens

-- an expression with few enough nodes, and not too deep
pub record IsSmall (e : Expr) : Type 0 where
  pub nodes : nodes_of e ≤ MOST_EXPRESSION_NODES
  pub depth : depth_of e ≤ MOST_EXPRESSION_DEPTH

-- the text is that of the expression, within all limits
pub record IsText (bytes : List ℕ) (e : Expr) : Type 0 where
  pub within : length bytes ≤ MOST_EXPRESSION_BYTES
  pub spelled : IsSpelled bytes e
  pub small : IsSmall e

-- ---- texts that are refused

-- some expression goes on from these tokens
abbrev pub Viable : List Token → Type 0
Viable front = (more : List Token) × (e : Expr) × Spells e (front ++ more)

-- Where the tokens of `front` are read and this lexeme stands next, at `here`, in a text of n bytes, the fault is at `at` and has this code:
-- 1 at a token, or at a byte that begins none, with which no expression goes on; 2 at the text's length where it ends early; 3 at a number that is too great
abbrev pub IsFaultyAt : ℕ → List Token → Lexeme → ℕ → ℕ → ℕ → Type 0
IsFaultyAt n front (lexeme.Token t) here at code = ¬ Viable (front ++ t ∷ []) × (at ≡ here) × (code ≡ 1)
IsFaultyAt n front lexeme.Nothing here at code = (at ≡ here) × (code ≡ 1)
IsFaultyAt n front lexeme.TooGreat here at code = (at ≡ here) × (code ≡ 3)
IsFaultyAt n front lexeme.Unfinished here at code =
    (Viable (front ++ token.Text [] ∷ []) × (at ≡ n) × (code ≡ 2))
    ⊎ (¬ Viable (front ++ token.Text [] ∷ []) × (at ≡ here) × (code ≡ 1))

abbrev pub IsFaultyFrom : ℕ → List Token → List Placed → ℕ → ℕ → Type 0
IsFaultyFrom n front [] at code = ((e : Expr) → ¬ Spells e front) × (at ≡ n) × (code ≡ 2)
IsFaultyFrom n front (p ∷ ps) at code = IsFaultyAt n front p.lexeme p.at at code

-- the text isn't in the grammar: its first lexemes are the tokens of `front`, some expression goes on from them, and what comes next is at fault
pub record IsFaulty (bytes : List ℕ) (at code : ℕ) : Type 0 where
  pub before : List Placed
  pub from : List Placed
  pub parts : lexemes bytes ≡ before ++ from
  pub front : List Token
  pub are : AreTokens before front
  pub viable : Viable front
  pub fault : IsFaultyFrom (length bytes) front from at code

-- the text is in the grammar, but its expression has too many nodes or is too deep
pub record IsTooLarge (bytes : List ℕ) : Type 0 where
  pub expression : Expr
  pub spelled : IsSpelled bytes expression
  pub large : ¬ IsSmall expression

-- the text is refused at this place with this code
pub data IsRefused (bytes : List ℕ) (at code : ℕ) : Type 0 where
  too_long : MOST_EXPRESSION_BYTES < length bytes → at ≡ 0 → code ≡ 4 → IsRefused bytes at code
  faulty : length bytes ≤ MOST_EXPRESSION_BYTES → IsFaulty bytes at code → IsRefused bytes at code
  too_large : length bytes ≤ MOST_EXPRESSION_BYTES → IsTooLarge bytes → at ≡ length bytes → code ≡ 4 → IsRefused bytes at code
