use Rattle.std.proofs.Common.{arith, ap, ◌∙◌}
use Rattle.db_text.specs.Outcome.{outcome, text_outcome}
use Rattle.db_text.proofs.Passes.{taken, faulted, at_its_end}
use Rattle.db_text.proofs.scan.scan.Goals as goal

pub returns-in-Err : goal.returns-in-Err
returns-in-Err c =
    faulted c.loop-byte.line c.loop-byte.mode c.loop-byte.notes c.in-Some.byte.now c.in-Some.behind.now c.loop-byte.rest.now c.in-Err.fail c.advance.new.notes (text_outcome c.args.text.now)
    c.in-Some.ensures.cases.0 c.in-Err.ensures c.loop-byte.invariant.1

pub loop-byte-preserved : goal.loop-byte-preserved
loop-byte-preserved c =
    let l = c.loop-byte in
    let less = c.in-Some.ensures.cases.1 in
    let first = l.invariant.0 in
    let most = c.next_line-line.ensures.bound in
    let fewer = c.behind_staying-rest.ensures.within in (
      omega (arith, less, first, most, fewer),
      c.behind_staying-rest.ensures.same c.next_line-line.result c.advance.new.notes
          ∙ ap (λ x. outcome x c.in-Ok.next c.advance.new.notes c.in-Some.behind.now) c.next_line-line.ensures.value
          ∙ taken l.line l.mode l.notes c.in-Some.byte.now c.in-Some.behind.now l.rest.now c.in-Ok.next c.advance.new.notes c.in-Some.ensures.cases.0 c.in-Ok.ensures
          ∙ l.invariant.1,
    )

pub returns : goal.returns
returns c =
    at_its_end c.loop-byte.line c.loop-byte.mode c.loop-byte.notes c.loop-byte.rest.now c.finish.result (text_outcome c.args.text.now)
    c.in_default.ensures.cases c.finish.ensures c.loop-byte.invariant.1
