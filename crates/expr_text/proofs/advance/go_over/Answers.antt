use Rattle.std.proofs.Common.{sym, ◌∙◌}
use Rattle.expr_text.proofs.Skipping.{advanced_space, advanced_lexeme, advanced_fault}
use Rattle.expr_text.proofs.advance.go_over.Goals as goal

pub returns-then-begins_with_space : goal.returns-then-begins_with_space
returns-then-begins_with_space c =
    advanced_space c.args.len c.args.here c.args.glued c.args.state.now c.args.rest.now c.requires.not_empty (sym c.begins_with_space.ensures ∙ c.if-begins_with_space.true)

pub returns-in-Ok : goal.returns-in-Ok
returns-in-Ok c =
    rw c.is_number-glued.ensures
    (advanced_lexeme c.args.len c.args.here c.args.glued c.args.state.now c.args.rest.now (sym c.begins_with_space.ensures ∙ c.if-begins_with_space.false) c.requires.not_empty _ c.in_ok-scanned.ensures.value c.in_ok-scanned.ensures.size.0 c.in_ok-scanned.ensures.size.1 _ _ c.in-Ok.ensures)

pub returns-in-Err : goal.returns-in-Err
returns-in-Err c =
    advanced_fault c.args.len c.args.here c.args.glued c.args.state.now c.args.rest.now (sym c.begins_with_space.ensures ∙ c.if-begins_with_space.false) c.requires.not_empty _ c.in_ok-scanned.ensures.value c.in_ok-scanned.ensures.size.0 _ _ c.in-Err.ensures
