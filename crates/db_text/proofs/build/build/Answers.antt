use Rattle.std.proofs.Common.{arith, sym, ap, ◌∙◌, subst}
use Rattle.db_text.specs.Outcome.{built, Built}
use Rattle.db_text.proofs.Passes.{built_on, not_built, built_end, none_of}
use Rattle.db_text.proofs.build.build.Goals as goal

pub returns-in_default-2 : goal.returns-in_default-2
returns-in_default-2 c =
    let l = c.loop-byte in
    sym (not_built l.line l.mode l.notes l.parts c.in-Some.byte.now c.in-Some.behind.now l.rest.now c.advance.new.notes c.advance.new.parts c.in-Some.ensures.cases.0
    (subst (λ o. Built l.line l.mode l.notes l.parts c.in-Some.byte.now o c.advance.new.notes c.advance.new.parts) (none_of c.in_ok-next.field-0 c.in_default-2.not-Some) c.in_ok-next.ensures))
    ∙ l.invariant.1

pub loop-byte-preserved : goal.loop-byte-preserved
loop-byte-preserved c =
    let l = c.loop-byte in
    let less = c.in-Some.ensures.cases.1 in
    let first = l.invariant.0 in
    let most = c.next_line-line.ensures.bound in
    let fewer = c.in_ok-rest.ensures.within in (
      omega (arith, less, first, most, fewer),
      c.in_ok-rest.ensures.same c.next_line-line.result c.advance.new.notes
          ∙ ap (λ x. built x c.in-Some-2.next c.advance.new.notes c.advance.new.parts c.in-Some.behind.now) c.next_line-line.ensures.value
          ∙ built_on l.line l.mode l.notes l.parts c.in-Some.byte.now c.in-Some.behind.now l.rest.now c.in-Some-2.next c.advance.new.notes c.advance.new.parts c.in-Some.ensures.cases.0
          (subst (λ o. Built l.line l.mode l.notes l.parts c.in-Some.byte.now o c.advance.new.notes c.advance.new.parts) c.in-Some-2.is c.in_ok-next.ensures)
          ∙ l.invariant.1,
    )

pub returns : goal.returns
returns c =
    let l = c.loop-byte in
    sym (built_end l.line l.mode l.notes l.parts l.rest.now c.in_default.ensures.cases) ∙ l.invariant.1
