-- What a call says that has evaluated: what it answers is what the definition gives, its questions are those of the definition in order, and of the state only the rows last hit and the questions left are changed.
use Rattle.std.specs.Prelude.{◌≡◌, ℕ, Result, Ok, Err}
use Rattle.db_model.specs.declared.database.Database.{Database}
use Rattle.db_model.specs.declared.env.Env.{Env}
use Rattle.db_model.specs.declared.no_memory.NoMemory.{NoMemory}
use Rattle.db_model.specs.declared.tree.Reason.{Reason}
use Rattle.db_model.specs.declared.value.Value.{Value}
use Rattle.db_model.specs.declared.value.Value.TheVariants.{Num}
use Rattle.db_model.specs.Expression.{Eval, ◌>>=◌, give, num}
use Rattle.db_model.specs.Over.{Point, Ends}
use Rattle.expr_eval.specs.declared.end.EvalEnd.{EvalEnd}
use Rattle.expr_eval.specs.declared.end.EvalEnd.TheVariants as end
use Rattle.expr_eval.specs.Sources.{Sources, sources}

-- an answer as the outcome of a computation: want of memory is none of its results
abbrev pub outcome : {A B : Type 0} → (B → A) → Result B EvalEnd → Result (Result A Reason) NoMemory
outcome shows (Ok b) = Ok (Ok (shows b))
outcome shows (Err (end.Fault r)) = Ok (Err r)
outcome shows (Err end.NoMemory) = Err (record {})

-- of the state only the rows last hit and the questions left are changed
abbrev pub Stays : Env → Env → Type 0
Stays z z' = z' ≡ record z { hits = z'.hits; questions = z'.questions }

-- p, begun at m, gave this answer at n; an answer stands for a value, given what the state holds
pub record Evaluates {A B : Type 0} (db : Database) (p : Eval A) (shows : Sources → B → A) (m : Point Env) (o : Result B EvalEnd) (n : Point Env) : Type 0 where
  pub ends : Ends db m.held.packet.stamp p m (outcome (shows (sources m.held)) o) n
  pub stays : Stays m.held n.held

-- an answer that is the value itself
abbrev pub itself : {A : Type 0} → Sources → A → A
itself held a = a

-- an answer that is the number that the value is
abbrev pub counted : Sources → ℕ → Value
counted held n = Num n

-- a computation's value taken as a number, 0 where it is none
abbrev pub number_of : Eval Value → Eval ℕ
number_of p = p >>= (λ v. give (num v))

-- a call without questions gave what the definition gives, or was refused memory
abbrev pub Gave : {A B : Type 0} → (B → A) → Result A Reason → Result B EvalEnd → Type 0
Gave shows r (Ok b) = r ≡ Ok (shows b)
Gave shows r (Err (end.Fault f)) = r ≡ Err f
Gave shows r (Err end.NoMemory) = Unit {0}
