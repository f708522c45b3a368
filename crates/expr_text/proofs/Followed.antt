-- What the grammar reads, the machine follows: of an expression's tokens it makes something that joins to the expression.
use Rattle.std.proofs.Common.{◌≡◌, ◌≤◌, ℕ, Bool, List, [], ◌∷◌, ◌++◌, Some, refl, sym, ap, ◌∙◌, arith, append_assoc, append-nil}
use Rattle.db_model.specs.declared.expression.Expr.{Expr}
use Rattle.db_model.specs.declared.expression.Expr.TheVariants as expr
use Rattle.expr_text.specs.declared.machine.Begun.TheVariants as begun
use Rattle.expr_text.specs.declared.machine.Mode.TheVariants as mode
use Rattle.expr_text.specs.declared.machine.Next.TheVariants as next
use Rattle.expr_text.specs.declared.machine.Wanted.TheVariants as wanted_as
use Rattle.expr_text.specs.declared.token.Call.TheVariants as call
use Rattle.expr_text.specs.declared.token.Token.{Token}
use Rattle.expr_text.specs.declared.token.Token.TheVariants as token
use Rattle.expr_text.specs.Tokens.{level_of, left_level_of}
use Rattle.expr_text.specs.Grammar.{Reads, ReadsKeys, number, text, protocol, variable, column, field, group, to_number, length_of, to_bytes, has_text, is_present, look_up, slice, binary, negated, tighter, last, key, Spells}
use Rattle.expr_text.specs.Machine.{Stack, at, frame, joined, start, wanted, join, when, operator, close, colon, close_bracket, comma, alone, fed, ended}
use Rattle.expr_text.proofs.Levels.{sides, le_true, join_stays, join_slice, join_operand, join_negated}

-- after the tokens from ts to rest, in front of an open stack k, the machine has something that joins to (e, k) up to level l
pub record Read (l : ℕ) (e : Expr) (k : Stack) (ts rest : List Token) : Type 0 where
  pub value : Expr
  pub above : Stack
  pub goes : fed (at (mode.Wants wanted_as.Expression) k) ts ≡ fed (at (mode.Behind next.Any value) above) rest
  pub joins : (m : ℕ) → m ≤ l → join m value above ≡ join m e k

-- an expression that is complete at once
whole : {l : ℕ} {e : Expr} {k : Stack} {ts rest : List Token} → fed (at (mode.Wants wanted_as.Expression) k) ts ≡ fed (at (mode.Behind next.Any e) k) rest → Read l e k ts rest
whole {e = e} {k = k} h = record { value = e; above = k; goes = h; joins = λ m q. refl }

-- what joins to a key goes on as if the key were among those so far
on : {keys : List Expr} {us rest : List Token} → ReadsKeys keys us rest → (u : Expr) (above : Stack) (table : List ℕ) (renew : Bool) (done : List Expr) (e : Expr) (k : Stack)
    → join 1 u above ≡ joined e (frame (begun.Key table renew) done ∷ k)
    → fed (at (mode.Behind next.Any u) above) us ≡ fed (at (mode.Keys table renew (done ++ e ∷ [])) k) us
on (last {rest}) u above table renew done e k q = ap (λ j. fed (close j.value j.stack) rest) q
on (key {ts} d ds) u above table renew done e k q = ap (λ j. fed (comma j.value j.stack) ts) q

mutual
  pub reads : {l : ℕ} {e : Expr} {ts rest : List Token} → Reads l e ts rest → (k : Stack) → wanted k ≤ l → Read l e k ts rest
  reads number k h = whole refl
  reads text k h = whole refl
  reads protocol k h = whole refl
  reads variable k h = whole refl
  reads column k h = whole refl
  reads field k h = whole refl
  reads (group {rest} d) k h =
      let r = reads d (frame begun.Parenthesis [] ∷ k) (omega arith) in
      whole (r.goes ∙ ap (λ j. fed (close j.value j.stack) rest) (r.joins 1 (omega arith)))
  reads (to_number {rest} d) k h =
      let r = reads d (frame (begun.Argument call.ToNumber) [] ∷ k) (omega arith) in
      whole (r.goes ∙ ap (λ j. fed (close j.value j.stack) rest) (r.joins 1 (omega arith)))
  reads (length_of {rest} d) k h =
      let r = reads d (frame (begun.Argument call.LengthOf) [] ∷ k) (omega arith) in
      whole (r.goes ∙ ap (λ j. fed (close j.value j.stack) rest) (r.joins 1 (omega arith)))
  reads (to_bytes {size} {rest} d) k h =
      let r = reads d (frame (begun.Argument call.ToBytes) [] ∷ k) (omega arith) in
      whole (r.goes ∙ ap (λ j. fed (comma j.value j.stack) (token.Number size ∷ token.Close ∷ rest)) (r.joins 1 (omega arith)))
  reads (has_text {b} {rest} d) k h =
      let r = reads d (frame (begun.Argument call.HasText) [] ∷ k) (omega arith) in
      whole (r.goes ∙ ap (λ j. fed (comma j.value j.stack) (token.Text b ∷ token.Close ∷ rest)) (r.joins 1 (omega arith)))
  reads is_present k h = whole refl
  reads (look_up {table} {renew} d) k h = whole (reads_keys d table renew [] k)
  reads (slice {b} {from} {us} {vs} {rest} db df dc) k h =
      let rb = reads db k h in
      let rf = reads df (frame begun.Start (b ∷ []) ∷ k) (omega arith) in
      let rc = reads dc (frame begun.Length (b ∷ (from ∷ [])) ∷ k) (omega arith) in
      let base : joined rb.value rb.above ≡ joined b k = sym (join_slice rb.value rb.above) ∙ rb.joins 7 (omega arith) ∙ join_slice b k in
      whole (rb.goes
      ∙ ap (λ j. fed (at (mode.Wants wanted_as.Expression) (frame begun.Start (j.value ∷ []) ∷ j.stack)) us) base
      ∙ rf.goes
      ∙ ap (λ j. fed (colon j.value j.stack) vs) (rf.joins 1 (omega arith))
      ∙ rc.goes
      ∙ ap (λ j. fed (close_bracket j.value j.stack) rest) (rc.joins 1 (omega arith)))
  reads (binary {o} {a} {b} {us} da db) k h =
      let s = sides o in
      let ra = reads da k (omega (arith, s.least)) in
      let rb = reads db (frame (begun.Operand o) (a ∷ []) ∷ k) (omega arith) in
      let left : join (left_level_of o) ra.value ra.above ≡ joined a k = ra.joins (left_level_of o) (omega arith) ∙ join_stays (left_level_of o) a k (omega (arith, s.least)) s.other in
      record {
        value = rb.value;
        above = rb.above;
        goes = ra.goes
            ∙ ap (λ j. fed (operator o j) us) left
            ∙ ap (λ t. fed (when t (at (mode.Wants wanted_as.Expression) (frame (begun.Operand o) (a ∷ []) ∷ k))) us) (le_true (wanted k) (level_of o) h)
            ∙ rb.goes;
        joins = λ m q. rb.joins m (omega arith) ∙ join_operand m o (a ∷ []) b k q;
      }
  reads (negated {e} {ts} d) k h =
      let r = reads d (frame begun.Negated [] ∷ k) (omega arith) in
      record {
        value = r.value;
        above = r.above;
        goes = ap (λ t. fed (when t (at (mode.Wants wanted_as.Expression) (frame begun.Negated [] ∷ k))) ts) (le_true (wanted k) 3 h) ∙ r.goes;
        joins = λ m q. r.joins m q ∙ join_negated m [] e k q;
      }
  reads (tighter d) k h =
      let r = reads d k (omega arith) in
      record { value = r.value; above = r.above; goes = r.goes; joins = λ m q. r.joins m (omega arith) }

  reads_keys : {keys : List Expr} {ts rest : List Token} → ReadsKeys keys ts rest → (table : List ℕ) (renew : Bool) (done : List Expr) (k : Stack)
      → fed (at (mode.Keys table renew done) k) ts ≡ fed (at (mode.Behind next.Any (expr.LookUp table renew (done ++ keys))) k) rest
  reads_keys (last {rest}) table renew done k = ap (λ es. fed (at (mode.Behind next.Any (expr.LookUp table renew es)) k) rest) (sym (append-nil done))
  reads_keys (key {e} {keys} {us} {rest} d ds) table renew done k =
      let r = reads d (frame (begun.Key table renew) done ∷ k) (omega arith) in
      r.goes
      ∙ on ds r.value r.above table renew done e k (r.joins 1 (omega arith))
      ∙ reads_keys ds table renew (done ++ e ∷ []) k
      ∙ ap (λ es. fed (at (mode.Behind next.Any (expr.LookUp table renew es)) k) rest) (append_assoc done (e ∷ []) keys)

-- the tokens of an expression make the machine give it
pub followed : {e : Expr} {ts : List Token} → Spells e ts → ended (fed (Some start) ts) ≡ Some e
followed d =
    let r = reads d [] (omega arith) in
    ap ended r.goes ∙ ap alone (r.joins 1 (omega arith))
