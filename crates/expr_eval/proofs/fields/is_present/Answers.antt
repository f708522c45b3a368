use Rattle.std.proofs.Common.{◌≡◌, ◌∙◌, ◌+◌, ◌||◌, true, false, Bool, sym, ap, drop, refl}
use Rattle.expr_code.specs.Meaning.{some_in}
use Rattle.expr_eval.proofs.Latest.{some_next, some_last}
use Rattle.expr_eval.proofs.fields.is_present.Goals as goal

pub returns-then-is_present : goal.returns-then-is_present
returns-then-is_present c =
    let ns = c.args.numbers.now in
    let xs = c.args.present.now in
    let i = c.loop-number.number-index in
    sym (ap (λ (b : Bool). b || some_in (drop (i + 1) ns) xs) c.if-is_present.true) ∙ some_next ns xs i c.is_present.result (some_in ns xs) c.loop-number-test.true c.is_present.ensures c.loop-number.invariant

pub loop-number-preserved : goal.loop-number-preserved
loop-number-preserved c =
    let ns = c.args.numbers.now in
    let xs = c.args.present.now in
    let i = c.loop-number.number-index in
    sym (ap (λ (b : Bool). b || some_in (drop (i + 1) ns) xs) c.if-is_present.false) ∙ some_next ns xs i c.is_present.result (some_in ns xs) c.loop-number-test.true c.is_present.ensures c.loop-number.invariant

pub returns : goal.returns
returns c = sym (some_last c.args.numbers.now c.args.present.now c.loop-number.number-index c.loop-number-test.false) ∙ c.loop-number.invariant
