-- A machine over tokens, by which the parser goes. Only `parsed` goes by it, and the laws in proofs/ tie it to the grammar.
use Rattle.std.specs.Prelude.{ℕ, suc, Bool, true, false, nat_le, if◌then◌else◌, List, [], ◌∷◌, ◌++◌, Option, Some, None}
use Rattle.db_model.specs.declared.expression.Expr.{Expr}
use Rattle.db_model.specs.declared.expression.Expr.TheVariants as expr
use Rattle.expr_text.specs.declared.machine.Begun.{Begun}
use Rattle.expr_text.specs.declared.machine.Begun.TheVariants as begun
use Rattle.expr_text.specs.declared.machine.Frame.{Frame}
use Rattle.expr_text.specs.declared.machine.Mode.{Mode}
use Rattle.expr_text.specs.declared.machine.Mode.TheVariants as mode
use Rattle.expr_text.specs.declared.machine.Next.{Next}
use Rattle.expr_text.specs.declared.machine.Next.TheVariants as next
use Rattle.expr_text.specs.declared.machine.Wanted.{Wanted}
use Rattle.expr_text.specs.declared.machine.Wanted.TheVariants as wanted_as
use Rattle.expr_text.specs.declared.state.State.{State}
use Rattle.expr_text.specs.declared.token.BinaryOp.{BinaryOp}
use Rattle.expr_text.specs.declared.token.Call.{Call}
use Rattle.expr_text.specs.declared.token.Call.TheVariants as call
use Rattle.expr_text.specs.declared.token.Token.{Token}
use Rattle.expr_text.specs.declared.token.Token.TheVariants as token
use Rattle.expr_text.specs.Tokens.{level_of, left_level_of, joined_by}

abbrev pub Stack : Type 0
Stack = List Frame

-- an expression and what is open behind it
pub record Joined : Type 0 where
  pub value : Expr
  pub stack : Stack

abbrev pub at : Mode → Stack → Option State
at m k = Some (record { mode = m; stack = k })

-- an expression begins, and an expression was read
abbrev pub wants : Stack → Option State
wants k = at (mode.Wants wanted_as.Expression) k

abbrev pub has : Expr → Stack → Option State
has e k = at (mode.Behind next.Any e) k

-- the state after a step that gave a mode, or none
abbrev pub now : Option Mode → Stack → Option State
now None k = None
now (Some m) k = at m k

-- the state after a token that was taken, or none
abbrev pub stepped : Bool → State → Option State
stepped true s = Some s
stepped false s = None

-- what was begun, and the parts before the expression that it waits for
abbrev pub frame : Begun → List Expr → Frame
frame b parts = record { kind = b; parts = parts }

abbrev pub joined : Expr → Stack → Joined
joined e k = record { value = e; stack = k }

abbrev pub start : State
start = record { mode = (mode.Wants wanted_as.Expression); stack = [] }

-- the least level that an expression may have there
abbrev pub wanted_by : Begun → ℕ
wanted_by (begun.Operand o) = suc (level_of o)
wanted_by begun.Negated = 3
wanted_by begun.Parenthesis = 1
wanted_by begun.Start = 1
wanted_by begun.Length = 1
wanted_by (begun.Argument f) = 1
wanted_by (begun.Key table renew) = 1

abbrev pub wanted : Stack → ℕ
wanted [] = 1
wanted (f ∷ k) = wanted_by f.kind

-- what an operator makes of the one part before it and the expression behind it
abbrev pub operated : BinaryOp → List Expr → Expr → Expr
operated o (a ∷ []) e = joined_by o a e
operated o _ e = e

-- what an operator or a `not` makes of the expression behind it
abbrev pub built : Begun → List Expr → Expr → Expr
built (begun.Operand o) parts e = operated o parts e
built begun.Negated parts e = expr.Not e
built begun.Parenthesis parts e = e
built begun.Start parts e = e
built begun.Length parts e = e
built (begun.Argument f) parts e = e
built (begun.Key table renew) parts e = e

-- it ends where what follows has at most this level
abbrev pub binds : ℕ → Begun → Bool
binds l (begun.Operand o) = nat_le l (level_of o)
binds l begun.Negated = nat_le l 3
binds l begun.Parenthesis = false
binds l begun.Start = false
binds l begun.Length = false
binds l (begun.Argument f) = false
binds l (begun.Key table renew) = false

abbrev pub is_empty : Stack → Bool
is_empty [] = true
is_empty (f ∷ k) = false

abbrev pub ends : ℕ → Stack → Bool
ends l [] = false
ends l (f ∷ k) = binds l f.kind

-- the expression with all operators that end before this level
abbrev pub join : ℕ → Expr → Stack → Joined
join l e [] = joined e []
join l e (f ∷ k) = if binds l f.kind then join l (built f.kind f.parts e) k else joined e (f ∷ k)

abbrev pub when : Bool → Option State → Option State
when true s = s
when false s = None

-- ---- where an expression begins

abbrev pub begin : Stack → Token → Option State
begin k (token.Number n) = has (expr.Number n) k
begin k (token.Text b) = has (expr.Text b) k
begin k (token.Name name) = has (expr.Field name) k
begin k (token.Protocol name) = has (expr.Protocol name) k
begin k (token.Variable name) = has (expr.Variable name) k
begin k (token.Column table column) = has (expr.Column table column) k
begin k token.Not = when (nat_le (wanted k) 3) (wants (frame begun.Negated [] ∷ k))
begin k token.Open = wants (frame begun.Parenthesis [] ∷ k)
begin k (token.Call f) = at (mode.Wants (wanted_as.CallOpens f)) k
begin k token.IsPresent = at (mode.Wants wanted_as.PresentOpens) k
begin k (token.LookUp renew) = at (mode.Wants (wanted_as.LookUpOpens renew)) k
begin k _ = None

-- ---- behind an expression

abbrev pub operator : BinaryOp → Joined → Option State
operator o j = when (nat_le (wanted j.stack) (level_of o)) (wants (frame (begun.Operand o) (j.value ∷ []) ∷ j.stack))

abbrev pub close_call : Call → Expr → Stack → Option State
close_call call.ToNumber e k = has (expr.ToNumber e) k
close_call call.LengthOf e k = has (expr.LengthOf e) k
close_call call.ToBytes e k = None
close_call call.HasText e k = None

abbrev pub close_in : Begun → List Expr → Expr → Stack → Option State
close_in begun.Parenthesis parts e k = has e k
close_in (begun.Argument f) parts e k = close_call f e k
close_in (begun.Key table renew) parts e k = has (expr.LookUp table renew (parts ++ e ∷ [])) k
close_in _ parts e k = None

abbrev pub close : Expr → Stack → Option State
close e [] = None
close e (f ∷ k) = close_in f.kind f.parts e k

abbrev pub comma_in_call : Call → Expr → Stack → Option State
comma_in_call call.ToNumber e k = None
comma_in_call call.LengthOf e k = None
comma_in_call call.ToBytes e k = at (mode.Behind next.Size e) k
comma_in_call call.HasText e k = at (mode.Behind next.Searched e) k

abbrev pub comma_in : Begun → List Expr → Expr → Stack → Option State
comma_in (begun.Argument f) parts e k = comma_in_call f e k
comma_in (begun.Key table renew) parts e k = wants (frame (begun.Key table renew) (parts ++ e ∷ []) ∷ k)
comma_in _ parts e k = None

abbrev pub comma : Expr → Stack → Option State
comma e [] = None
comma e (f ∷ k) = comma_in f.kind f.parts e k

abbrev pub colon_in : Begun → List Expr → Expr → Stack → Option State
colon_in begun.Start parts e k = wants (frame begun.Length (parts ++ e ∷ []) ∷ k)
colon_in _ parts e k = None

abbrev pub colon : Expr → Stack → Option State
colon e [] = None
colon e (f ∷ k) = colon_in f.kind f.parts e k

-- a slice of its base and its first place, and of its length
abbrev pub sliced : List Expr → Expr → Expr
sliced (b ∷ (from ∷ [])) count = expr.Slice b from count
sliced _ count = count

abbrev pub close_bracket_in : Begun → List Expr → Expr → Stack → Option State
close_bracket_in begun.Length parts e k = has (sliced parts e) k
close_bracket_in _ parts e k = None

abbrev pub close_bracket : Expr → Stack → Option State
close_bracket e [] = None
close_bracket e (f ∷ k) = close_bracket_in f.kind f.parts e k

-- a whole expression, with all its operators, and what closes it or goes on behind it
abbrev pub ended_by : Joined → Token → Option State
ended_by j token.Close = close j.value j.stack
ended_by j token.Comma = comma j.value j.stack
ended_by j token.Colon = colon j.value j.stack
ended_by j token.CloseBracket = close_bracket j.value j.stack
ended_by j _ = None

abbrev pub go_on : Expr → Stack → Token → Option State
go_on e k (token.Operator o) = operator o (join (left_level_of o) e k)
go_on e k token.OpenBracket = wants (frame begun.Start (e ∷ []) ∷ k)
go_on e k t = ended_by (join 1 e k) t

-- ---- one token

abbrev pub open_call : Call → Stack → Token → Option State
open_call f k token.Open = wants (frame (begun.Argument f) [] ∷ k)
open_call f k _ = None

abbrev pub open_present : Stack → Token → Option State
open_present k token.Open = at (mode.Wants wanted_as.PresentName) k
open_present k _ = None

abbrev pub present_name : Stack → Token → Option State
present_name k (token.Name name) = at (mode.Behind next.Closes (expr.IsPresent name)) k
present_name k _ = None

abbrev pub open_look_up : Bool → Stack → Token → Option State
open_look_up renew k token.Open = at (mode.Wants (wanted_as.TableName renew)) k
open_look_up renew k _ = None

abbrev pub table_name : Bool → Stack → Token → Option State
table_name renew k (token.Name table) = at (mode.Keys table renew []) k
table_name renew k _ = None

abbrev pub key_or_end : List ℕ → Bool → List Expr → Stack → Token → Option State
key_or_end table renew keys k token.Comma = wants (frame (begun.Key table renew) keys ∷ k)
key_or_end table renew keys k token.Close = has (expr.LookUp table renew keys) k
key_or_end table renew keys k _ = None

abbrev pub size : Expr → Stack → Token → Option State
size e k (token.Number n) = at (mode.Behind next.Closes (expr.ToBytes e n)) k
size e k _ = None

abbrev pub searched : Expr → Stack → Token → Option State
searched e k (token.Text b) = at (mode.Behind next.Closes (expr.HasText e b)) k
searched e k _ = None

abbrev pub closes : Expr → Stack → Token → Option State
closes e k token.Close = has e k
closes e k _ = None

abbrev pub wanted_in : Wanted → Stack → Token → Option State
wanted_in wanted_as.Expression k t = begin k t
wanted_in (wanted_as.CallOpens f) k t = open_call f k t
wanted_in wanted_as.PresentOpens k t = open_present k t
wanted_in wanted_as.PresentName k t = present_name k t
wanted_in (wanted_as.LookUpOpens renew) k t = open_look_up renew k t
wanted_in (wanted_as.TableName renew) k t = table_name renew k t

abbrev pub behind : Next → Expr → Stack → Token → Option State
behind next.Any e k t = go_on e k t
behind next.Size e k t = size e k t
behind next.Searched e k t = searched e k t
behind next.Closes e k t = closes e k t

abbrev pub step_in : Mode → Stack → Token → Option State
step_in (mode.Wants w) k t = wanted_in w k t
step_in (mode.Behind n e) k t = behind n e k t
step_in (mode.Keys table renew keys) k t = key_or_end table renew keys k t

abbrev pub step : State → Token → Option State
step s t = step_in s.mode s.stack t

abbrev pub step_from : Option State → Token → Option State
step_from None t = None
step_from (Some s) t = step s t

-- all the tokens, one after the other
abbrev pub fed : Option State → List Token → Option State
fed s [] = s
fed s (t ∷ ts) = fed (step_from s t) ts

abbrev pub alone : Joined → Option Expr
alone j = only j.value j.stack
  where
    only : Expr → Stack → Option Expr
    only e [] = Some e
    only e (f ∷ k) = None

-- the expression that was read, where one was
abbrev pub read : Mode → Option Expr
read (mode.Behind next.Any e) = Some e
read _ = None

abbrev pub end_with : Option Expr → Stack → Option Expr
end_with None k = None
end_with (Some e) k = alone (join 1 e k)

abbrev pub end_in : Mode → Stack → Option Expr
end_in m k = end_with (read m) k

-- the expression, where the tokens so far are one
abbrev pub ended : Option State → Option Expr
ended None = None
ended (Some s) = end_in s.mode s.stack
