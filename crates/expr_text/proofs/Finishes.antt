-- Each state of the machine can be ended, so the tokens that it has taken go on to an expression.
use Rattle.std.proofs.Common.{◌≡◌, ℕ, List, [], ◌∷◌, ◌++◌, Option, Some, None, refl, ap, ◌∙◌, arith}
use Rattle.db_model.specs.declared.expression.Expr.{Expr}
use Rattle.db_model.specs.declared.expression.Expr.TheVariants as expr
use Rattle.expr_text.specs.declared.machine.Begun.{Begun}
use Rattle.expr_text.specs.declared.machine.Begun.TheVariants as begun
use Rattle.expr_text.specs.declared.machine.Mode.{Mode}
use Rattle.expr_text.specs.declared.machine.Mode.TheVariants as mode
use Rattle.expr_text.specs.declared.machine.Next.TheVariants as next
use Rattle.expr_text.specs.declared.machine.Wanted.TheVariants as wanted_as
use Rattle.expr_text.specs.declared.token.Call.{Call}
use Rattle.expr_text.specs.declared.token.Call.TheVariants as call
use Rattle.expr_text.specs.declared.token.Token.{Token}
use Rattle.expr_text.specs.declared.token.Token.TheVariants as token
use Rattle.expr_text.specs.declared.state.State.{State}
use Rattle.expr_text.specs.Grammar.{Spells}
use Rattle.expr_text.specs.Refusal.{Viable}
use Rattle.expr_text.specs.Machine.{Stack, at, frame, start, operated, sliced, join, close, comma, colon, close_bracket, step_from, alone, fed, ended}
use Rattle.expr_text.proofs.Levels.{sides, join_operand, join_negated}
use Rattle.expr_text.proofs.Followed.{followed}
use Rattle.expr_text.proofs.Accepted.{accepted}

-- ---- tokens that end a state

abbrev closing_call : Call → List Token → List Token
closing_call call.ToNumber ts = token.Close ∷ ts
closing_call call.LengthOf ts = token.Close ∷ ts
closing_call call.ToBytes ts = token.Comma ∷ token.Number 0 ∷ token.Close ∷ ts
closing_call call.HasText ts = token.Comma ∷ token.Text [] ∷ token.Close ∷ ts

-- behind an expression
abbrev closing_of : Begun → List Token → List Token
closing_of (begun.Operand o) ts = ts
closing_of begun.Negated ts = ts
closing_of begun.Parenthesis ts = token.Close ∷ ts
closing_of begun.Start ts = token.Colon ∷ token.Number 0 ∷ token.CloseBracket ∷ ts
closing_of begun.Length ts = token.CloseBracket ∷ ts
closing_of (begun.Argument f) ts = closing_call f ts
closing_of (begun.Key table renew) ts = token.Close ∷ ts

abbrev closing : Stack → List Token
closing [] = []
closing (f ∷ k) = closing_of f.kind (closing k)

abbrev Ends : Option State → List Token → Type 0
Ends s ts = (e : Expr) × (ended (fed s ts) ≡ Some e)

-- what joins to (e, k) is ended by what closes k
abbrev Closes : Stack → Type 0
Closes k = (e u : Expr) (above : Stack) → join 1 u above ≡ join 1 e k → Ends (at (mode.Behind next.Any u) above) (closing k)

-- what is made of e in front of k ends as k does
made : (k : Stack) → Closes k → (e : Expr) → Ends (at (mode.Behind next.Any e) k) (closing k)
made k closes e = closes e e k refl

closes_in : (b : Begun) (parts : List Expr) (k : Stack) → Closes k → Closes (frame b parts ∷ k)
closes_in (begun.Operand o) parts k closes e u above q =
    let s = sides o in
    closes (operated o parts e) u above (q ∙ join_operand 1 o parts e k s.some)
closes_in begun.Negated parts k closes e u above q = closes (expr.Not e) u above (q ∙ join_negated 1 parts e k (omega arith))
closes_in begun.Parenthesis parts k closes e u above q =
    let r = made k closes e in
    (r.0, ap (λ j. ended (fed (close j.value j.stack) (closing k))) q ∙ r.1)
closes_in begun.Start parts k closes e u above q =
    let r = made k closes (sliced (parts ++ e ∷ []) (expr.Number 0)) in
    (r.0, ap (λ j. ended (fed (colon j.value j.stack) (token.Number 0 ∷ token.CloseBracket ∷ closing k))) q ∙ r.1)
closes_in begun.Length parts k closes e u above q =
    let r = made k closes (sliced parts e) in
    (r.0, ap (λ j. ended (fed (close_bracket j.value j.stack) (closing k))) q ∙ r.1)
closes_in (begun.Argument call.ToNumber) parts k closes e u above q =
    let r = made k closes (expr.ToNumber e) in
    (r.0, ap (λ j. ended (fed (close j.value j.stack) (closing k))) q ∙ r.1)
closes_in (begun.Argument call.LengthOf) parts k closes e u above q =
    let r = made k closes (expr.LengthOf e) in
    (r.0, ap (λ j. ended (fed (close j.value j.stack) (closing k))) q ∙ r.1)
closes_in (begun.Argument call.ToBytes) parts k closes e u above q =
    let r = made k closes (expr.ToBytes e 0) in
    (r.0, ap (λ j. ended (fed (comma j.value j.stack) (token.Number 0 ∷ token.Close ∷ closing k))) q ∙ r.1)
closes_in (begun.Argument call.HasText) parts k closes e u above q =
    let r = made k closes (expr.HasText e []) in
    (r.0, ap (λ j. ended (fed (comma j.value j.stack) (token.Text [] ∷ token.Close ∷ closing k))) q ∙ r.1)
closes_in (begun.Key table renew) parts k closes e u above q =
    let r = made k closes (expr.LookUp table renew (parts ++ e ∷ [])) in
    (r.0, ap (λ j. ended (fed (close j.value j.stack) (closing k))) q ∙ r.1)

closes : (k : Stack) → Closes k
closes [] e u above q = (e, ap alone q)
closes (f ∷ k) e u above q = closes_in f.kind f.parts k (closes k) e u above q

closed : (e : Expr) (k : Stack) → Ends (at (mode.Behind next.Any e) k) (closing k)
closed e k = closes k e e k refl

abbrev Finish : Option State → Type 0
Finish s = (more : List Token) × Ends s more

abbrev a_name : List ℕ
a_name = 97 ∷ []

finish_in : (m : Mode) (k : Stack) → Finish (at m k)
finish_in (mode.Wants wanted_as.Expression) k = (token.Number 0 ∷ closing k, closed (expr.Number 0) k)
finish_in (mode.Behind next.Any e) k = (closing k, closed e k)
finish_in (mode.Wants (wanted_as.CallOpens f)) k = (token.Open ∷ token.Number 0 ∷ closing (frame (begun.Argument f) [] ∷ k), closed (expr.Number 0) (frame (begun.Argument f) [] ∷ k))
finish_in (mode.Wants wanted_as.PresentOpens) k = (token.Open ∷ token.Name a_name ∷ token.Close ∷ closing k, closed (expr.IsPresent a_name) k)
finish_in (mode.Wants wanted_as.PresentName) k = (token.Name a_name ∷ token.Close ∷ closing k, closed (expr.IsPresent a_name) k)
finish_in (mode.Wants (wanted_as.LookUpOpens renew)) k = (token.Open ∷ token.Name a_name ∷ token.Close ∷ closing k, closed (expr.LookUp a_name renew []) k)
finish_in (mode.Wants (wanted_as.TableName renew)) k = (token.Name a_name ∷ token.Close ∷ closing k, closed (expr.LookUp a_name renew []) k)
finish_in (mode.Keys table renew keys) k = (token.Close ∷ closing k, closed (expr.LookUp table renew keys) k)
finish_in (mode.Behind next.Size e) k = (token.Number 0 ∷ token.Close ∷ closing k, closed (expr.ToBytes e 0) k)
finish_in (mode.Behind next.Searched e) k = (token.Text [] ∷ token.Close ∷ closing k, closed (expr.HasText e []) k)
finish_in (mode.Behind next.Closes e) k = (token.Close ∷ closing k, closed e k)

finishes : (s : State) → (more : List Token) × (e : Expr) × (ended (fed (Some s) more) ≡ Some e)
finishes s = let f = finish_in s.mode s.stack in (f.0, f.1.0, f.1.1)

-- ---- fronts

pub fed-append : (s : Option State) (xs ys : List Token) → fed s (xs ++ ys) ≡ fed (fed s xs) ys
fed-append s [] ys = refl
fed-append s (x ∷ xs) ys = fed-append (step_from s x) xs ys

pub fed_none : (ts : List Token) → fed None ts ≡ None
fed_none [] = refl
fed_none (t ∷ ts) = fed_none ts

-- a front that the machine has taken goes on to an expression
pub alive : (front : List Token) (s : State) → fed (Some start) front ≡ Some s → Viable front
alive front s q =
    let f = finishes s in
    (f.0, f.1, accepted f.1 (front ++ f.0) (ap ended (fed-append (Some start) front f.0 ∙ ap (λ x. fed x f.0) q) ∙ f.2))

-- one that it has refused doesn't
pub refused : (front : List Token) → fed (Some start) front ≡ None → Viable front → ⊥
refused front q v =
    let p : ended (fed (Some start) (front ++ v.0)) ≡ Some v.1 = followed v.2 in
    let r : ended (fed (Some start) (front ++ v.0)) ≡ None = ap ended (fed-append (Some start) front v.0 ∙ ap (λ x. fed x v.0) q ∙ fed_none v.0) in
    cc

-- the tokens spell one expression at most
pub one_expression : (e f : Expr) (ts : List Token) → Spells e ts → Spells f ts → e ≡ f
one_expression e f ts d c =
    let p : ended (fed (Some start) ts) ≡ Some e = followed d in
    let q : ended (fed (Some start) ts) ≡ Some f = followed c in
    cc
