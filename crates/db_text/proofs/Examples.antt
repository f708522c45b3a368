-- The texts that are written out, computed by the machine.
use Rattle.std.proofs.Common.{◌≡◌, ◌≤◌, ℕ, List, length, Some, None, Ok, Err, refl, subst, arith}
use Rattle.db_cause.specs.declared.cause.Cause.TheVariants as cause
use Rattle.db_cause.specs.Codes
use Rattle.db_text.specs.declared.node.Node.{Node}
use Rattle.db_text.specs.Examples.{EmptyElements, Lines, Values, Unsaid, IsEarly, Early, IsStuck, Stuck}
use Rattle.db_text.specs.Outcome.{outcome, built, text_outcome, text_built}
use Rattle.db_text.specs.Refusal.{IsText, IsRefused, faulty}
use Rattle.db_text.proofs.Outcomes.{Tells, told}
use Rattle.db_text.proofs.Passes.{text_by}

reads : (bytes : List ℕ) (n : Node) → length bytes ≤ 1048576 → text_outcome bytes ≡ Ok None → text_built bytes ≡ Some n → IsText bytes n
reads bytes n w h b = text_by bytes w n h b

refuses : (bytes : List ℕ) (line code : ℕ) → length bytes ≤ 1048576 → text_outcome bytes ≡ Err (line, code) → IsRefused bytes line code
refuses bytes line code w h = faulty w (subst (Tells bytes) h (told bytes))

early_at : (bytes : List ℕ) (line : ℕ) → length bytes ≤ 1048576 → text_outcome bytes ≡ Err (line, Codes.code cause.UnexpectedEnd) → IsEarly bytes line
early_at bytes line w h = refuses bytes line (Codes.code cause.UnexpectedEnd) w h

stuck_at : (bytes : List ℕ) (line : ℕ) → length bytes ≤ 1048576 → text_outcome bytes ≡ Err (line, Codes.code cause.UnexpectedByte) → IsStuck bytes line
stuck_at bytes line w h = refuses bytes line (Codes.code cause.UnexpectedByte) w h

pub empty_elements : EmptyElements
unfolding outcome built
empty_elements = (reads _ _ (omega arith) refl refl, reads _ _ (omega arith) refl refl, reads _ _ (omega arith) refl refl)

pub lines : Lines
unfolding outcome built
lines = reads _ _ (omega arith) refl refl

pub values : Values
unfolding outcome built
values = (reads _ _ (omega arith) refl refl, reads _ _ (omega arith) refl refl)

pub unsaid : Unsaid
unfolding outcome built
unsaid = reads _ _ (omega arith) refl refl

pub early : Early
unfolding outcome
early = (early_at _ 1 (omega arith) refl, early_at _ 1 (omega arith) refl, early_at _ 2 (omega arith) refl, early_at _ 1 (omega arith) refl)

pub stuck : Stuck
unfolding outcome
stuck =
    (stuck_at _ 1 (omega arith) refl, stuck_at _ 2 (omega arith) refl, stuck_at _ 1 (omega arith) refl, stuck_at _ 1 (omega arith) refl, stuck_at _ 1 (omega arith) refl, stuck_at _ 1 (omega arith) refl)
