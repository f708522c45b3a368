use Rattle.std.proofs.Common.{length, ◌-◌, arith}
use Rattle.expr_text.specs.Lexing.{lexemes}
use Rattle.expr_text.specs.Machine.{start}
use Rattle.expr_text.specs.Outcome.{outcome}
use Rattle.expr_text.proofs.Skipping.{told_end}
use Rattle.expr_text.proofs.parse.run_from.Goals as goal

pub returns : goal.returns
returns c =
    let text = c.args.text.now in
    told_end (length text) (length text - length c.loop-rest.rest.now) c.loop-rest.glued c.loop-rest.state c.loop-rest.rest.now (outcome (length text) start (lexemes text)) c.finish.result (omega arith) c.loop-rest.invariant.1 c.finish.ensures
