use Rattle.std.proofs.Common.{◌≡◌, ◌≤◌, ◌+◌, length}
use Rattle.db_text.specs.Outcome.{outcome, text_outcome}
use Rattle.db_text.proofs.scan.scan.Given as goal

abbrev pub invariant-loop-byte : goal.invariant-loop-byte
invariant-loop-byte l = (l.line + length l.rest ≤ 1 + length l.text) × (outcome l.line l.mode l.notes l.rest ≡ text_outcome l.text)

abbrev pub decreases-loop-byte : goal.decreases-loop-byte
decreases-loop-byte l = length l.rest
