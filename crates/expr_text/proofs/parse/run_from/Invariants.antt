use Rattle.std.proofs.Common.{◌≡◌, ◌≤◌, ◌-◌, length}
use Rattle.expr_text.specs.Lexing.{lexed, lexemes}
use Rattle.expr_text.specs.Machine.{start}
use Rattle.expr_text.specs.Outcome.{outcome}
use Rattle.expr_text.proofs.parse.run_from.Given as goal

abbrev pub invariant-loop-rest : goal.invariant-loop-rest
invariant-loop-rest l =
    (length l.rest ≤ length l.text)
    × (outcome (length l.text) l.state (lexed (length l.text - length l.rest) 0 l.glued l.rest)
    ≡ outcome (length l.text) start (lexemes l.text))

abbrev pub decreases-loop-rest : goal.decreases-loop-rest
decreases-loop-rest l = length l.rest
