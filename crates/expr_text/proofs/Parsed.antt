-- What the function of the definitions gives of a text, and that every text has an answer.
use Rattle.std.proofs.Common.{◌≡◌, ◌≤◌, ℕ, Bool, true, false, List, length, Option, Some, None, Result, Ok, Err, inl, inr, refl, ap, subst, ◌∙◌}
use Rattle.std.proofs.lemmas.Bool.{cond-true, leb-true, leb-false, le-leb}
use Rattle.std.specs.Prelude.{◌⊎◌, nat_le, if◌then◌else◌}
use Rattle.db_model.specs.declared.expression.Expr.{Expr}
use Rattle.expr_text.specs.declared.fail.ExprFail.{ExprFail}
use Rattle.expr_text.specs.declared.fail.ExprFail.TheVariants as fail
use Rattle.expr_text.specs.declared.limits.TheConstants.{MOST_EXPRESSION_BYTES}
use Rattle.expr_text.specs.Answer.{Answers}
use Rattle.expr_text.specs.Lexing.{lexemes}
use Rattle.expr_text.specs.Machine.{start}
use Rattle.expr_text.specs.Outcome.{Answer, outcome}
use Rattle.expr_text.specs.Parsed.{small_one, parsed, IsParsed}
use Rattle.expr_text.specs.Refusal.{IsText, IsRefused, too_long, faulty, too_large}
use Rattle.expr_text.specs.Sizes.{small}
use Rattle.expr_text.proofs.Answered.{small_false, small_so, spelled_by, text_by}
use Rattle.expr_text.proofs.Outcomes.{Tells, told, spelled_is, text_not_refused}

pub text_parsed : (bytes : List ℕ) (e : Expr) → IsText bytes e → parsed bytes ≡ Some e
unfolding parsed
text_parsed bytes e h =
    cond-true (nat_le (length bytes) MOST_EXPRESSION_BYTES) (small_one (outcome (length bytes) start (lexemes bytes))) None (le-leb (length bytes) MOST_EXPRESSION_BYTES h.within)
    ∙ ap small_one (spelled_is (length bytes) bytes e h.spelled)
    ∙ cond-true (small e) (Some e) None (small_so e h.small)

module _ (bytes : List ℕ) where
  small_text : (e f : Expr) → length bytes ≤ MOST_EXPRESSION_BYTES → outcome (length bytes) start (lexemes bytes) ≡ Ok f → (b : Bool) → small f ≡ b → (if b then Some f else None) ≡ Some e → IsText bytes e
  small_text e f w h true s q = let same : f ≡ e = cc in subst (IsText bytes) same (text_by bytes w f h s)
  small_text e f w h false s q = cc

  answer_text : (e : Expr) → length bytes ≤ MOST_EXPRESSION_BYTES → (r : Answer) → outcome (length bytes) start (lexemes bytes) ≡ r → small_one r ≡ Some e → IsText bytes e
  answer_text e w (Ok f) h q = small_text e f w h (small f) refl q
  answer_text e w (Err f) h q = cc

  within_text : (e : Expr) (b : Bool) → nat_le (length bytes) MOST_EXPRESSION_BYTES ≡ b → (if b then small_one (outcome (length bytes) start (lexemes bytes)) else None) ≡ Some e → IsText bytes e
  within_text e true h q = answer_text e (leb-true _ _ h) (outcome (length bytes) start (lexemes bytes)) refl q
  within_text e false h q = cc

  pub parsed_text : (e : Expr) → parsed bytes ≡ Some e → IsText bytes e
  unfolding parsed
  parsed_text e q = within_text e (nat_le (length bytes) MOST_EXPRESSION_BYTES) refl q

  parsed_none : (at code : ℕ) → IsRefused bytes at code → (o : Option Expr) → parsed bytes ≡ o → parsed bytes ≡ None
  parsed_none at code h None q = q
  parsed_none at code h (Some e) q = absurd (text_not_refused bytes e at code (parsed_text e q) h)

  pub is_parsed : (r : Result Expr ExprFail) → Answers bytes r → IsParsed bytes r
  is_parsed (Ok e) h = text_parsed bytes e h
  is_parsed (Err (fail.Fault at code)) h = parsed_none at code h (parsed bytes) refl
  is_parsed (Err fail.NoMemory) h = tt

  -- ---- every text has an answer

  abbrev HasOne : Type 0
  HasOne = ((e : Expr) × IsText bytes e) ⊎ ((at : ℕ) × (code : ℕ) × IsRefused bytes at code)

  by_size : (e : Expr) → length bytes ≤ MOST_EXPRESSION_BYTES → outcome (length bytes) start (lexemes bytes) ≡ Ok e → (b : Bool) → small e ≡ b → HasOne
  by_size e w h true s = inl (e, text_by bytes w e h s)
  by_size e w h false s = inr (length bytes, 4, too_large w (record { expression = e; spelled = spelled_by bytes w e h; large = small_false e s }) refl refl)

  by_answer : length bytes ≤ MOST_EXPRESSION_BYTES → (r : Answer) → outcome (length bytes) start (lexemes bytes) ≡ r → HasOne
  by_answer w (Ok e) h = by_size e w h (small e) refl
  by_answer w (Err f) h = inr (f.0, f.1, faulty w (subst (Tells bytes) h (told bytes)))

  by_length : (b : Bool) → nat_le (length bytes) MOST_EXPRESSION_BYTES ≡ b → HasOne
  by_length true h = by_answer (leb-true _ _ h) (outcome (length bytes) start (lexemes bytes)) refl
  by_length false h = inr (0, 4, too_long (leb-false _ _ h) refl refl)

  pub has_answer : HasOne
  has_answer = by_length (nat_le (length bytes) MOST_EXPRESSION_BYTES) refl
