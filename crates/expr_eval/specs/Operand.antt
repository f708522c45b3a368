-- What the parts of an expression give, as the values that they stand for.
use Rattle.std.specs.Prelude.{ℕ, List, [], take, drop, slice_get, Option, Some, None, Result, Ok, Err}
use Rattle.db_model.specs.declared.value.Value.{Value}
use Rattle.db_model.specs.declared.value.Value.TheVariants.{Num, Buf, Proto}
use Rattle.db_model.specs.Expression.{buf, value_or_zero}
use Rattle.expr_eval.specs.declared.end.EvalEnd.{EvalEnd}
use Rattle.expr_eval.specs.declared.operand.Operand.{Operand}
use Rattle.expr_eval.specs.declared.operand.Operand.TheVariants.{Own, Piece, Field, Variable}
use Rattle.expr_eval.specs.declared.operand.View.{View}
use Rattle.expr_eval.specs.Sources.{Sources}
use Rattle.expr_eval.specs.declared.operand.View.TheVariants as view

-- the value of the decoded field at a place
abbrev pub bytes_at : Option (ℕ × List ℕ) → List ℕ
bytes_at None = []
bytes_at (Some f) = f.1

-- the value of an operand, read from what a state holds
abbrev pub shown : Sources → Operand → Value
shown held (Own v) = v
shown held (Piece from count) = Buf (take count (drop from held.bytes))
shown held (Field at) = Buf (bytes_at (slice_get held.present at))
shown held (Variable at) = Buf (buf (value_or_zero (slice_get held.vars at)))

abbrev pub seen : View → Value
seen (view.Number n) = Num n
seen (view.Bytes b) = Buf b.now
seen (view.Protocol p) = Proto p

-- an answer that is a number, as an operand
abbrev pub number_operand : Result ℕ EvalEnd → Result Operand EvalEnd
number_operand (Ok n) = Ok (Own (Num n))
number_operand (Err e) = Err e
