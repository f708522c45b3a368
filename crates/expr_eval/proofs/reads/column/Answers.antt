use Rattle.std.proofs.Common.{◌≡◌, Some, Option, subst, slice_get, List}
use Rattle.db_model.specs.declared.value.Value.{Value}
use Rattle.expr_eval.specs.Evaluates.{Gave}
use Rattle.expr_eval.specs.Operand.{shown}
use Rattle.expr_eval.specs.Reads.{column_value}
use Rattle.expr_eval.specs.Sources.{sources}
use Rattle.expr_eval.proofs.reads.column.Goals as goal

pub returns-in-Some-Some : goal.returns-in-Some-Some
returns-in-Some-Some c =
    let z = c.args.env.now in
    let hit : Some c.in-Some-Some.field-0.now ≡ slice_get z.hits c.args.table = c.in-Some-Some.ensures.value in
    let row : Some (Some c.in-Some-Some.row) ≡ slice_get z.hits c.args.table = rw c.in-Some-Some.field-0-is at hit in
    subst (λ (o : Option (Option (List Value))). Gave (shown (sources z)) (column_value o c.args.column) c.value_at.result) row (c.value_at.ensures (sources z))
