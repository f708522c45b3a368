use Rattle.std.proofs.Common.{◌≡◌, ◌≤◌, ◌+◌, length}
use Rattle.db_text.specs.Outcome.{built, text_built}
use Rattle.db_text.proofs.build.build.Given as goal

abbrev pub invariant-loop-byte : goal.invariant-loop-byte
invariant-loop-byte l = (l.line + length l.rest ≤ 1 + length l.text) × (built l.line l.mode l.notes l.parts l.rest ≡ text_built l.text)

abbrev pub decreases-loop-byte : goal.decreases-loop-byte
decreases-loop-byte l = length l.rest
