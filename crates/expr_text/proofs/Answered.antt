-- What the outcome of a text says of the parser's answer.
use Rattle.std.proofs.Common.{◌≡◌, ◌≤◌, ℕ, Bool, true, false, ◌&&◌, nat_le, List, length, Result, Ok, Err, refl, sym, ap, subst, ◌∙◌}
use Rattle.std.proofs.lemmas.Bool.{leb-true}
use Rattle.db_model.specs.declared.expression.Expr.{Expr}
use Rattle.db_model.specs.declared.limits.TheConstants.{MOST_EXPRESSION_NODES, MOST_EXPRESSION_DEPTH}
use Rattle.db_model.specs.Forms.{nodes_of, depth_of}
use Rattle.expr_text.specs.declared.fail.ExprFail.{ExprFail}
use Rattle.expr_text.specs.declared.fail.ExprFail.TheVariants as fail
use Rattle.expr_text.specs.Answer.{Answers}
use Rattle.expr_text.specs.Lexing.{lexemes}
use Rattle.expr_text.specs.Machine.{start}
use Rattle.expr_text.specs.Outcome.{Told, Judged, outcome}
use Rattle.expr_text.specs.Refusal.{IsSpelled, IsSmall, IsText, faulty, too_large}
use Rattle.expr_text.specs.Sizes.{small}
use Rattle.expr_text.proofs.Levels.{le_true}
use Rattle.expr_text.proofs.Outcomes.{Tells, told}

both : (a b : Bool) → (a && b) ≡ true → (a ≡ true) × (b ≡ true)
both true true h = (refl, refl)
both true false h = cc
both false b h = cc

pub small_true : (e : Expr) → small e ≡ true → IsSmall e
small_true e h =
    let p = both (nat_le (nodes_of e) MOST_EXPRESSION_NODES) (nat_le (depth_of e) MOST_EXPRESSION_DEPTH) h in
    record { nodes = leb-true _ _ p.0; depth = leb-true _ _ p.1 }

pub small_false : (e : Expr) → small e ≡ false → IsSmall e → ⊥
small_false e h s =
    let p = le_true (nodes_of e) MOST_EXPRESSION_NODES s.nodes in
    let q = le_true (depth_of e) MOST_EXPRESSION_DEPTH s.depth in
    let r : small e ≡ true = ap (λ b. b && nat_le (depth_of e) MOST_EXPRESSION_DEPTH) p ∙ q in
    cc

pub small_so : (e : Expr) → IsSmall e → small e ≡ true
small_so e s = by (small e) refl
  where
    by : (b : Bool) → small e ≡ b → b ≡ true
    by true h = refl
    by false h = absurd (small_false e h s)

module _ (bytes : List ℕ) (within : length bytes ≤ 1024) where
  pub spelled_by : (e : Expr) → outcome (length bytes) start (lexemes bytes) ≡ Ok e → IsSpelled bytes e
  spelled_by e h = subst (Tells bytes) h (told bytes)

  pub text_by : (e : Expr) → outcome (length bytes) start (lexemes bytes) ≡ Ok e → small e ≡ true → IsText bytes e
  text_by e h s = record { within = within; spelled = spelled_by e h; small = small_true e s }

  pub fault_by : (f : ExprFail) → Told (Err f) (outcome (length bytes) start (lexemes bytes)) → Answers bytes (Err f)
  fault_by (fail.Fault at code) h = faulty within (subst (Tells bytes) h (told bytes))
  fault_by fail.NoMemory h = tt

  pub judged_by : (e : Expr) (r : Result Expr ExprFail) → outcome (length bytes) start (lexemes bytes) ≡ Ok e → Judged e (length bytes) r → Answers bytes r
  judged_by e (Ok f) h j = subst (IsText bytes) (sym j.0) (text_by e h j.1)
  judged_by e (Err (fail.Fault at code)) h j =
      too_large within (record { expression = e; spelled = spelled_by e h; large = small_false e j.2 }) j.0 j.1
  judged_by e (Err fail.NoMemory) h j = absurd j
