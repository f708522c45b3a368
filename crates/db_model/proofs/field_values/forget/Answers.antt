use Rattle.std.proofs.Common.{◌+◌, drop, List, ℕ, sym, subst}
use Rattle.db_model.proofs.LastValue.{KeepsLeft, left_first, left_after, left_past, left_none}
use Rattle.db_model.proofs.field_values.forget.Goals as goal
use Rattle.db_model.proofs.field_values.forget.Goals.{then-number-last, else-number-last}

pub loop-number-init : goal.loop-number-init
loop-number-init c = left_first c.args.values.now c.args.last.now c.requires

pub loop-number-preserved : goal.loop-number-preserved
loop-number-preserved c =
    let values = c.args.values.now in
    let i = c.loop-number.number-index in
    let d = c.loop-number-item.result in
    elim c.if-number-last.branch [
      | then-number-last w ↦ subst (λ (l : List ℕ). KeepsLeft (drop (i + 1) values) l) (sym w.last-is) (left_after values i d c.loop-number.last c.loop-number-test.true c.loop-number-item.is w.if-number-last.true c.loop-number.invariant)
      | else-number-last w ↦ subst (λ (l : List ℕ). KeepsLeft (drop (i + 1) values) l) (sym w.last-is) (left_past values i d c.loop-number.last c.loop-number-test.true c.loop-number-item.is w.if-number-last.false c.loop-number.invariant)
    ]

pub returns : goal.returns
returns c = left_none c.args.values.now c.loop-number.number-index c.loop-number.last c.loop-number-test.false c.loop-number.invariant
