-- A text read byte by byte. No public clause names it.
use Rattle.std.specs.Prelude.{◌<◌, ℕ, suc, List, [], ◌∷◌, ◌++◌}
use Rattle.expr_text.specs.declared.lexeme.Lexeme.TheVariants as lexeme
use Rattle.expr_text.specs.declared.lexeme.Scanned.{Scanned}
use Rattle.expr_text.specs.declared.text.Stage.{Stage}
use Rattle.expr_text.specs.declared.text.Stage.TheVariants as stage
use Rattle.expr_text.specs.declared.text.Turn.{Turn}
use Rattle.expr_text.specs.declared.text.Turn.TheVariants as turn
use Rattle.expr_text.specs.declared.token.Token.TheVariants as token
use Rattle.expr_text.specs.Lexing.{scanned, plain, escape, high, low}

-- a text goes on from a stage
abbrev pub resume : Stage → List ℕ → ℕ → List ℕ → Scanned
resume stage.Plain w n bs = plain w n bs
resume stage.Escape w n bs = escape w n bs
resume stage.High w n bs = high w n bs
resume (stage.Low h) w n bs = low w h n bs

-- and behind one more byte
abbrev pub turned : Turn → List ℕ → ℕ → List ℕ → Scanned
turned (turn.Add byte) w n bs = plain (w ++ byte ∷ []) (suc n) bs
turned (turn.Go s) w n bs = resume s w (suc n) bs
turned turn.Close w n bs = scanned (lexeme.Token (token.Text w)) (suc n)
turned turn.Wrong w n bs = scanned lexeme.Nothing n

-- the digit that was read is one
abbrev pub IsStage : Stage → Type 0
IsStage stage.Plain = Unit {0}
IsStage stage.Escape = Unit {0}
IsStage stage.High = Unit {0}
IsStage (stage.Low h) = h < 16

abbrev pub IsTurn : Turn → Type 0
IsTurn (turn.Add byte) = Unit {0}
IsTurn (turn.Go s) = IsStage s
IsTurn turn.Close = Unit {0}
IsTurn turn.Wrong = Unit {0}
