-- What a part of an evaluation says of its call: the operand or the number that it gave stands for what the definition gives.
use Rattle.std.specs.Prelude.{ℕ, Option, Result}
use Rattle.db_model.specs.declared.database.Database.{Database}
use Rattle.db_model.specs.declared.env.Env.{Env}
use Rattle.db_model.specs.declared.value.Value.{Value}
use Rattle.db_model.specs.Expression.{Eval}
use Rattle.db_model.specs.Over.{point}
use Rattle.db_model.specs.Questions.{Log}
use Rattle.db_model.specs.Session.{Session}
use Rattle.expr_eval.specs.declared.end.EvalEnd.{EvalEnd}
use Rattle.expr_eval.specs.declared.operand.Operand.{Operand}
use Rattle.expr_eval.specs.Evaluates.{Evaluates, counted, itself, number_of}
use Rattle.expr_eval.specs.Operand.{shown}

-- a state and what answers there, at the beginning of the call and at its end
abbrev pub Yields : {T : Type 0} → (T → Session) → (T → Option Log) → Database → Eval Value → Env × T → Result Operand EvalEnd → Env × T → Type 0
Yields content told db p m o n = Evaluates db p shown (point m.0 (content m.1) (told m.1)) o (point n.0 (content n.1) (told n.1))

-- the same where each value is a number: the number that it gave is the value
abbrev pub Counts : {T : Type 0} → (T → Session) → (T → Option Log) → Database → Eval Value → Env × T → Result ℕ EvalEnd → Env × T → Type 0
Counts content told db p m o n = Evaluates db p counted (point m.0 (content m.1) (told m.1)) o (point n.0 (content n.1) (told n.1))

-- the same where the value is taken as a number
abbrev pub Numbers : {T : Type 0} → (T → Session) → (T → Option Log) → Database → Eval Value → Env × T → Result ℕ EvalEnd → Env × T → Type 0
Numbers content told db p m o n = Evaluates db (number_of p) itself (point m.0 (content m.1) (told m.1)) o (point n.0 (content n.1) (told n.1))
