use Rattle.std.proofs.Common.{◌≡◌, ◌∙◌, sym, ap, refl, rules, ℕ, List, map, Bool, true, false, not, length, Ok, Err, Option, None, Some, slice_get, drop, [], ◌+◌, subst, arith, if◌then◌else◌}
use Rattle.db_model.specs.declared.value.Value.{Value}
use Rattle.db_model.specs.declared.value.Value.TheVariants.{Num, Buf, Proto}
use Rattle.db_model.specs.Expression as def
use Rattle.db_model.specs.declared.database.Database.{Database}
use Rattle.db_model.specs.declared.database.KeyDecl.{KeyDecl}
use Rattle.db_model.specs.declared.database.TableDecl.{TableDecl}
use Rattle.db_model.specs.Over.{point}
use Rattle.expr_eval.specs.declared.end.EvalEnd.TheVariants.{NoMemory as Refused}
use Rattle.db_model.specs.Expression.{Eval, ◌>>=◌, result, num, buf, truth, is_so, special_value, value_or_zero, give}
use Rattle.expr_code.specs.Meaning.{code_val, some_in}
use Rattle.db_model.specs.Numbers.{occurs}
use Rattle.expr_eval.specs.declared.operand.Operand.TheVariants.{Own}
use Rattle.expr_eval.proofs.Forms.{not_is, and_is, or_is, binary_is, slice_is, to_number_is, length_is, to_bytes_is, has_text_is, look_up_is, number_is, text_is, protocol_is, field_is, special_is, variable_is, column_is, is_present_is}
use Rattle.expr_eval.proofs.Steps.{same, same_as, recast, gives, refused, then_ok, then_err, finish_1, finish_2, own_is, Keys_so_far, no_keys_yet, key_unevaluated, key_unmade, key_made, keys_end, keys_fitted, key_missing, keys_then, look_is_fit, drop_some, drop_past, drop_beyond, drop_leaves, drop_all, drop_at, keys_at}
use Rattle.expr_eval.proofs.Taken.{then_if, no_number, finish_number, as_operand, is_counted, taken, number_at, field_number_at, number_told, finish_numbers, no_second, no_first, finish_slice, no_from, no_count}
use Rattle.expr_eval.specs.Evaluates.{number_of}
use Rattle.expr_eval.proofs.evaluation.+parts.Goals as goal

pub evaluate-returns-in-Not-clause-value : goal.evaluate-returns-in-Not-clause-value
evaluate-returns-in-Not-clause-value g t c =
    let db = c.args.db.now in
    same_as db (not_is db c.args.code.now c.in-Not.x c.get.result.now c.in-Not.is c.get.ensures) (as_operand db c.negation.result c.as_operand.ensures c.negation.ensures.value)

pub evaluate-returns-in-And-clause-value : goal.evaluate-returns-in-And-clause-value
evaluate-returns-in-And-clause-value g t c =
    let db = c.args.db.now in
    same_as db (and_is db c.args.code.now c.in-And.x c.in-And.y c.get-in-And.result.now c.get-in-And-2.result.now c.in-And.is c.get-in-And.ensures c.get-in-And-2.ensures) (as_operand db c.conjunction.result c.as_operand-in-And.ensures c.conjunction.ensures.value)

pub evaluate-returns-in-Or-clause-value : goal.evaluate-returns-in-Or-clause-value
evaluate-returns-in-Or-clause-value g t c =
    let db = c.args.db.now in
    same_as db (or_is db c.args.code.now c.in-Or.x c.in-Or.y c.get-in-Or.result.now c.get-in-Or-2.result.now c.in-Or.is c.get-in-Or.ensures c.get-in-Or-2.ensures) (as_operand db c.disjunction.result c.as_operand-in-Or.ensures c.disjunction.ensures.value)

pub evaluate-returns-in-Binary-clause-value : goal.evaluate-returns-in-Binary-clause-value
evaluate-returns-in-Binary-clause-value g t c =
    let db = c.args.db.now in
    same_as db (binary_is db c.args.code.now c.in-Binary.x c.in-Binary.y c.get-in-Binary.result.now c.get-in-Binary-2.result.now c.in-Binary.op c.in-Binary.is c.get-in-Binary.ensures c.get-in-Binary-2.ensures) (as_operand db c.operation.result c.as_operand-in-Binary.ensures c.operation.ensures.value)

pub evaluate-returns-in-Slice-clause-value : goal.evaluate-returns-in-Slice-clause-value
evaluate-returns-in-Slice-clause-value g t c =
    let db = c.args.db.now in
    same_as db (slice_is db c.args.code.now c.in-Slice.base c.in-Slice.from c.in-Slice.count c.get-in-Slice.result.now c.get-in-Slice-2.result.now c.get-in-Slice-3.result.now c.in-Slice.is c.get-in-Slice.ensures c.get-in-Slice-2.ensures c.get-in-Slice-3.ensures) c.slice.ensures.value

pub evaluate-returns-in-ToNumber-clause-value : goal.evaluate-returns-in-ToNumber-clause-value
evaluate-returns-in-ToNumber-clause-value g t c =
    let db = c.args.db.now in
    same_as db (to_number_is db c.args.code.now c.in-ToNumber.x c.get-in-ToNumber.result.now c.in-ToNumber.is c.get-in-ToNumber.ensures) (as_operand db c.to_number.result c.as_operand-in-ToNumber.ensures c.to_number.ensures.value)

pub evaluate-returns-in-LengthOf-clause-value : goal.evaluate-returns-in-LengthOf-clause-value
evaluate-returns-in-LengthOf-clause-value g t c =
    let db = c.args.db.now in
    same_as db (length_is db c.args.code.now c.in-LengthOf.x c.get-in-LengthOf.result.now c.in-LengthOf.is c.get-in-LengthOf.ensures) (as_operand db c.length_of.result c.as_operand-in-LengthOf.ensures c.length_of.ensures.value)

pub evaluate-returns-in-ToBytes-clause-value : goal.evaluate-returns-in-ToBytes-clause-value
evaluate-returns-in-ToBytes-clause-value g t c =
    let db = c.args.db.now in
    same_as db (to_bytes_is db c.args.code.now c.in-ToBytes.value c.get-in-ToBytes.result.now c.in-ToBytes.size c.in-ToBytes.is c.get-in-ToBytes.ensures) c.to_bytes.ensures.value

pub evaluate-returns-in-HasText-clause-value : goal.evaluate-returns-in-HasText-clause-value
evaluate-returns-in-HasText-clause-value g t c =
    let db = c.args.db.now in
    same_as db (has_text_is db c.args.code.now c.in-HasText.within c.get-in-HasText.result.now c.in-HasText.text c.in-HasText.is c.get-in-HasText.ensures) (as_operand db c.has_text.result c.as_operand-in-HasText.ensures c.has_text.ensures.value)

pub evaluate-returns-in-Number-clause-value : goal.evaluate-returns-in-Number-clause-value
evaluate-returns-in-Number-clause-value g t c =
    let db = c.args.db.now in
    same db (number_is db c.args.code.now c.in-Number.n c.args.env.now c.in-Number.is) (gives db (Ok (Num c.in-Number.n)) (own_is _ _ _ c.of_number.ensures))

pub evaluate-returns-in-Text-clause-value : goal.evaluate-returns-in-Text-clause-value
evaluate-returns-in-Text-clause-value g t c =
    let db = c.args.db.now in
    same db (text_is db c.args.code.now c.in-Text.text c.args.env.now c.in-Text.is) (gives db (Ok (Buf c.in-Text.text)) (c.text.ensures _))

pub evaluate-returns-in-Protocol-clause-value : goal.evaluate-returns-in-Protocol-clause-value
evaluate-returns-in-Protocol-clause-value g t c =
    let db = c.args.db.now in
    same db (protocol_is db c.args.code.now c.in-Protocol.number c.args.env.now c.in-Protocol.is) (gives db (Ok (Proto c.in-Protocol.number)) refl)

pub evaluate-returns-in-Field-clause-value : goal.evaluate-returns-in-Field-clause-value
evaluate-returns-in-Field-clause-value g t c =
    let db = c.args.db.now in
    same db (field_is db c.args.code.now c.in-Field.numbers c.args.env.now c.in-Field.is) (gives db _ c.field.ensures)

pub evaluate-returns-in-Variable-clause-value : goal.evaluate-returns-in-Variable-clause-value
evaluate-returns-in-Variable-clause-value g t c =
    let db = c.args.db.now in
    same db (variable_is db c.args.code.now c.in-Variable.place c.args.env.now c.in-Variable.is) (gives db (Ok (value_or_zero (slice_get c.args.env.now.vars c.in-Variable.place))) (ap (λ (v : Value). Ok v) (sym c.variable.ensures)))

pub evaluate-returns-in-Special-clause-value : goal.evaluate-returns-in-Special-clause-value
evaluate-returns-in-Special-clause-value g t c =
    let db = c.args.db.now in
    same db (special_is db c.args.code.now c.in-Special.special c.args.env.now c.in-Special.is) (gives db (Ok (special_value c.in-Special.special c.args.env.now)) (ap (λ (v : Value). Ok v) (sym c.special.ensures)))

pub evaluate-returns-in-Column-clause-value : goal.evaluate-returns-in-Column-clause-value
evaluate-returns-in-Column-clause-value g t c =
    let db = c.args.db.now in
    same db (column_is db c.args.code.now c.in-Column.table c.in-Column.column c.args.env.now c.in-Column.is) (gives db _ c.column.ensures)

pub evaluate-returns-in-IsPresent-clause-value : goal.evaluate-returns-in-IsPresent-clause-value
evaluate-returns-in-IsPresent-clause-value g t c =
    let db = c.args.db.now in
    same db (is_present_is db c.args.code.now c.in-IsPresent.numbers c.args.env.now c.in-IsPresent.is) (gives db _ (own_is _ _ _ (c.of_number-in-IsPresent.ensures ∙ ap Own c.presence.ensures)))

pub evaluate-returns-in-LookUp-clause-value : goal.evaluate-returns-in-LookUp-clause-value
evaluate-returns-in-LookUp-clause-value g t c =
    let db = c.args.db.now in
    same_as db (look_up_is db c.args.code.now c.in-LookUp.table c.in-LookUp.renew c.in-LookUp.keys c.as_slice.result.now c.in-LookUp.is c.as_slice.ensures) (as_operand db c.look_up.result c.as_operand-in-LookUp.ensures c.look_up.ensures.value)

pub evaluate_number-returns-in-Number-clause-value : goal.evaluate_number-returns-in-Number-clause-value
evaluate_number-returns-in-Number-clause-value g t c =
    let db = c.args.db.now in
    same db (number_at db (code_val db c.args.code.now) (Num c.in-Number.n) c.args.env.now (number_is db c.args.code.now c.in-Number.n c.args.env.now c.in-Number.is)) (gives db (Ok c.in-Number.n) refl)

pub evaluate_number-returns-in-IsPresent-clause-value : goal.evaluate_number-returns-in-IsPresent-clause-value
evaluate_number-returns-in-IsPresent-clause-value g t c =
    let db = c.args.db.now in
    same db (number_at db (code_val db c.args.code.now) _ c.args.env.now (is_present_is db c.args.code.now c.in-IsPresent.numbers c.args.env.now c.in-IsPresent.is)) (gives db (Ok (num (truth (some_in c.in-IsPresent.numbers c.args.env.now.present)))) (ap (λ (v : Value). Ok (num v)) (sym c.presence.ensures)))

pub evaluate_number-returns-in-Special-clause-value : goal.evaluate_number-returns-in-Special-clause-value
evaluate_number-returns-in-Special-clause-value g t c =
    let db = c.args.db.now in
    same db (number_at db (code_val db c.args.code.now) _ c.args.env.now (special_is db c.args.code.now c.in-Special.special c.args.env.now c.in-Special.is)) (gives db (Ok (num (special_value c.in-Special.special c.args.env.now))) (ap (λ (n : ℕ). Ok n) (sym c.special_number.ensures)))

pub evaluate_number-returns-in-Variable-clause-value : goal.evaluate_number-returns-in-Variable-clause-value
evaluate_number-returns-in-Variable-clause-value g t c =
    let db = c.args.db.now in
    same db (number_at db (code_val db c.args.code.now) _ c.args.env.now (variable_is db c.args.code.now c.in-Variable.place c.args.env.now c.in-Variable.is)) (gives db (Ok (num (value_or_zero (slice_get c.args.env.now.vars c.in-Variable.place)))) (ap (λ (n : ℕ). Ok n) (sym c.variable_number.ensures)))

pub evaluate_number-returns-in-Not-clause-value : goal.evaluate_number-returns-in-Not-clause-value
evaluate_number-returns-in-Not-clause-value g t c =
    let db = c.args.db.now in
    same_as db (ap number_of (not_is db c.args.code.now c.in-Not.x c.get.result.now c.in-Not.is c.get.ensures)) (is_counted db c.negation.result c.negation.ensures.value)

pub evaluate_number-returns-in-And-clause-value : goal.evaluate_number-returns-in-And-clause-value
evaluate_number-returns-in-And-clause-value g t c =
    let db = c.args.db.now in
    same_as db (ap number_of (and_is db c.args.code.now c.in-And.x c.in-And.y c.get-in-And.result.now c.get-in-And-2.result.now c.in-And.is c.get-in-And.ensures c.get-in-And-2.ensures)) (is_counted db c.conjunction.result c.conjunction.ensures.value)

pub evaluate_number-returns-in-Or-clause-value : goal.evaluate_number-returns-in-Or-clause-value
evaluate_number-returns-in-Or-clause-value g t c =
    let db = c.args.db.now in
    same_as db (ap number_of (or_is db c.args.code.now c.in-Or.x c.in-Or.y c.get-in-Or.result.now c.get-in-Or-2.result.now c.in-Or.is c.get-in-Or.ensures c.get-in-Or-2.ensures)) (is_counted db c.disjunction.result c.disjunction.ensures.value)

pub evaluate_number-returns-in-Binary-clause-value : goal.evaluate_number-returns-in-Binary-clause-value
evaluate_number-returns-in-Binary-clause-value g t c =
    let db = c.args.db.now in
    same_as db (ap number_of (binary_is db c.args.code.now c.in-Binary.x c.in-Binary.y c.get-in-Binary.result.now c.get-in-Binary-2.result.now c.in-Binary.op c.in-Binary.is c.get-in-Binary.ensures c.get-in-Binary-2.ensures)) (is_counted db c.operation.result c.operation.ensures.value)

pub evaluate_number-returns-in-ToNumber-clause-value : goal.evaluate_number-returns-in-ToNumber-clause-value
evaluate_number-returns-in-ToNumber-clause-value g t c =
    let db = c.args.db.now in
    same_as db (ap number_of (to_number_is db c.args.code.now c.in-ToNumber.x c.get-in-ToNumber.result.now c.in-ToNumber.is c.get-in-ToNumber.ensures)) (is_counted db c.to_number.result c.to_number.ensures.value)

pub evaluate_number-returns-in-LengthOf-clause-value : goal.evaluate_number-returns-in-LengthOf-clause-value
evaluate_number-returns-in-LengthOf-clause-value g t c =
    let db = c.args.db.now in
    same_as db (ap number_of (length_is db c.args.code.now c.in-LengthOf.x c.get-in-LengthOf.result.now c.in-LengthOf.is c.get-in-LengthOf.ensures)) (is_counted db c.length_of.result c.length_of.ensures.value)

pub evaluate_number-returns-in-HasText-clause-value : goal.evaluate_number-returns-in-HasText-clause-value
evaluate_number-returns-in-HasText-clause-value g t c =
    let db = c.args.db.now in
    same_as db (ap number_of (has_text_is db c.args.code.now c.in-HasText.within c.get-in-HasText.result.now c.in-HasText.text c.in-HasText.is c.get-in-HasText.ensures)) (is_counted db c.has_text.result c.has_text.ensures.value)

pub evaluate_number-returns-in-LookUp-clause-value : goal.evaluate_number-returns-in-LookUp-clause-value
evaluate_number-returns-in-LookUp-clause-value g t c =
    let db = c.args.db.now in
    same_as db (ap number_of (look_up_is db c.args.code.now c.in-LookUp.table c.in-LookUp.renew c.in-LookUp.keys c.as_slice.result.now c.in-LookUp.is c.as_slice.ensures)) (is_counted db c.look_up.result c.look_up.ensures.value)

pub taken_number-returns-in_err-x-clause-value : goal.taken_number-returns-in_err-x-clause-value
taken_number-returns-in_err-x-clause-value g t c =
    let db = c.args.db.now in
    let r : c.from_residual.result ≡ Err c.in_err-x.field-0.0 = search rules in
    recast db r (then_err db _ c.in_err-x.field-0.0 c.in_err-x.ensures.value)

pub taken_number-returns-clause-value : goal.taken_number-returns-clause-value
taken_number-returns-clause-value g t c =
    let db = c.args.db.now in
    taken db c.in_ok-x.x c.number.result c.number.ensures c.in_ok-x.ensures.value

pub negation-returns-in_err-x-clause-value : goal.negation-returns-in_err-x-clause-value
negation-returns-in_err-x-clause-value g t c =
    let db = c.args.db.now in
    let r : c.from_residual.result ≡ Err c.in_err-x.field-0.0 = search rules in
    recast db r (no_number db (code_val db c.args.x.now) (λ (n : ℕ). give (truth (not (is_so n)))) c.in_err-x.field-0.0 c.in_err-x.ensures.value)

pub negation-returns-clause-value : goal.negation-returns-clause-value
negation-returns-clause-value g t c =
    let db = c.args.db.now in
    finish_number db (code_val db c.args.x.now) (λ (n : ℕ). Ok (truth (not (is_so n)))) c.in_ok-x.x c.in_ok-x.ensures.value (number_told (c.of_truth.ensures ∙ ap (λ (b : Bool). truth (not b)) c.is_so.ensures))

pub conjunction-returns-in_err-x-clause-value : goal.conjunction-returns-in_err-x-clause-value
conjunction-returns-in_err-x-clause-value g t c =
    let db = c.args.db.now in
    let r : c.from_residual.result ≡ Err c.in_err-x.field-0.0 = search rules in
    recast db r (no_number db (code_val db c.args.x.now) (λ (n : ℕ). if is_so n then (code_val db c.args.y.now >>= (λ w. give (truth (is_so (num w))))) else give (Num 0)) c.in_err-x.field-0.0 c.in_err-x.ensures.value)

pub conjunction-returns-then-not-is_so-clause-value : goal.conjunction-returns-then-not-is_so-clause-value
conjunction-returns-then-not-is_so-clause-value g t c =
    let db = c.args.db.now in
    then_if db (code_val db c.args.x.now) (code_val db c.args.y.now >>= (λ w. give (truth (is_so (num w))))) (give (Num 0)) c.in_ok-x.x false c.in_ok-x.ensures.value (sym c.is_so.ensures ∙ c.if-not-is_so.true) (gives db (Ok (Num 0)) refl)

pub conjunction-returns-in_err-y-clause-value : goal.conjunction-returns-in_err-y-clause-value
conjunction-returns-in_err-y-clause-value g t c =
    let db = c.args.db.now in
    let r : c.from_residual-in_err-y.result ≡ Err c.in_err-y.field-0.0 = search rules in
    recast db r (then_if db (code_val db c.args.x.now) (code_val db c.args.y.now >>= (λ w. give (truth (is_so (num w))))) (give (Num 0)) c.in_ok-x.x true c.in_ok-x.ensures.value (sym c.is_so.ensures ∙ c.if-not-is_so.false) (no_number db (code_val db c.args.y.now) (λ (n : ℕ). give (truth (is_so n))) c.in_err-y.field-0.0 c.in_err-y.ensures.value))

pub conjunction-returns-clause-value : goal.conjunction-returns-clause-value
conjunction-returns-clause-value g t c =
    let db = c.args.db.now in
    then_if db (code_val db c.args.x.now) (code_val db c.args.y.now >>= (λ w. give (truth (is_so (num w))))) (give (Num 0)) c.in_ok-x.x true c.in_ok-x.ensures.value (sym c.is_so.ensures ∙ c.if-not-is_so.false) (finish_number db (code_val db c.args.y.now) (λ (n : ℕ). Ok (truth (is_so n))) c.in_ok-y.y c.in_ok-y.ensures.value (number_told (c.of_truth.ensures ∙ ap truth c.is_so-2.ensures)))

pub disjunction-returns-in_err-x-clause-value : goal.disjunction-returns-in_err-x-clause-value
disjunction-returns-in_err-x-clause-value g t c =
    let db = c.args.db.now in
    let r : c.from_residual.result ≡ Err c.in_err-x.field-0.0 = search rules in
    recast db r (no_number db (code_val db c.args.x.now) (λ (n : ℕ). if is_so n then give (Num 1) else (code_val db c.args.y.now >>= (λ w. give (truth (is_so (num w)))))) c.in_err-x.field-0.0 c.in_err-x.ensures.value)

pub disjunction-returns-then-is_so-clause-value : goal.disjunction-returns-then-is_so-clause-value
disjunction-returns-then-is_so-clause-value g t c =
    let db = c.args.db.now in
    then_if db (code_val db c.args.x.now) (give (Num 1)) (code_val db c.args.y.now >>= (λ w. give (truth (is_so (num w))))) c.in_ok-x.x true c.in_ok-x.ensures.value (sym c.is_so.ensures ∙ c.if-is_so.true) (gives db (Ok (Num 1)) refl)

pub disjunction-returns-in_err-y-clause-value : goal.disjunction-returns-in_err-y-clause-value
disjunction-returns-in_err-y-clause-value g t c =
    let db = c.args.db.now in
    let r : c.from_residual-in_err-y.result ≡ Err c.in_err-y.field-0.0 = search rules in
    recast db r (then_if db (code_val db c.args.x.now) (give (Num 1)) (code_val db c.args.y.now >>= (λ w. give (truth (is_so (num w))))) c.in_ok-x.x false c.in_ok-x.ensures.value (sym c.is_so.ensures ∙ c.if-is_so.false) (no_number db (code_val db c.args.y.now) (λ (n : ℕ). give (truth (is_so n))) c.in_err-y.field-0.0 c.in_err-y.ensures.value))

pub disjunction-returns-clause-value : goal.disjunction-returns-clause-value
disjunction-returns-clause-value g t c =
    let db = c.args.db.now in
    then_if db (code_val db c.args.x.now) (give (Num 1)) (code_val db c.args.y.now >>= (λ w. give (truth (is_so (num w))))) c.in_ok-x.x false c.in_ok-x.ensures.value (sym c.is_so.ensures ∙ c.if-is_so.false) (finish_number db (code_val db c.args.y.now) (λ (n : ℕ). Ok (truth (is_so n))) c.in_ok-y.y c.in_ok-y.ensures.value (number_told (c.of_truth.ensures ∙ ap truth c.is_so-2.ensures)))

pub operation-returns-in_err-x-clause-value : goal.operation-returns-in_err-x-clause-value
operation-returns-in_err-x-clause-value g t c =
    let db = c.args.db.now in
    let r : c.from_residual.result ≡ Err c.in_err-x.field-0.0 = search rules in
    recast db r (no_first db (code_val db c.args.parts.0.now) (code_val db c.args.parts.1.now) c.args.op c.in_err-x.field-0.0 (c.by_numbers.ensures db c.if-not-by_numbers.false) c.in_err-x.ensures.value)

pub operation-returns-in_err-y-clause-value : goal.operation-returns-in_err-y-clause-value
operation-returns-in_err-y-clause-value g t c =
    let db = c.args.db.now in
    let r : c.from_residual-in_err-y.result ≡ Err c.in_err-y.field-0.0 = search rules in
    recast db r (no_second db (code_val db c.args.parts.0.now) (code_val db c.args.parts.1.now) c.args.op c.in_ok-x.x c.in_err-y.field-0.0 (c.by_numbers.ensures db c.if-not-by_numbers.false) c.in_ok-x.ensures.value c.in_err-y.ensures.value)

pub operation-returns-clause-value : goal.operation-returns-clause-value
operation-returns-clause-value g t c =
    let db = c.args.db.now in
    finish_numbers db (code_val db c.args.parts.0.now) (code_val db c.args.parts.1.now) c.args.op c.in_ok-x.x c.in_ok-y.y (c.by_numbers.ensures db c.if-not-by_numbers.false) c.in_ok-x.ensures.value c.in_ok-y.ensures.value c.of_numbers.ensures

pub comparison-returns-in_err-x-clause-value : goal.comparison-returns-in_err-x-clause-value
comparison-returns-in_err-x-clause-value g t c =
    let db = c.args.db.now in
    let r : c.from_residual.result ≡ Err c.in_err-x.field-0.0 = search rules in
    recast db r (then_err db _ c.in_err-x.field-0.0 c.in_err-x.ensures.value)

pub comparison-returns-in_err-y-clause-value : goal.comparison-returns-in_err-y-clause-value
comparison-returns-in_err-y-clause-value g t c =
    let db = c.args.db.now in
    let r : c.from_residual-in_err-y.result ≡ Err c.in_err-y.field-0.0 = search rules in
    recast db r (then_ok db _ c.in_ok-x.x c.in_ok-x.ensures.value (then_err db _ c.in_err-y.field-0.0 c.in_err-y.ensures.value))

pub comparison-returns-clause-value : goal.comparison-returns-clause-value
comparison-returns-clause-value g t c =
    let db = c.args.db.now in
    finish_2 db (def.binary c.args.op) c.in_ok-x.x c.in_ok-y.y c.in_ok-x.ensures.value c.in_ok-y.ensures.value c.binary.ensures

pub slice-returns-in_err-base-clause-value : goal.slice-returns-in_err-base-clause-value
slice-returns-in_err-base-clause-value g t c =
    let db = c.args.db.now in
    let r : c.from_residual.result ≡ Err c.in_err-base.field-0.0 = search rules in
    recast db r (then_err db _ c.in_err-base.field-0.0 c.in_err-base.ensures.value)

pub slice-returns-in_err-from-clause-value : goal.slice-returns-in_err-from-clause-value
slice-returns-in_err-from-clause-value g t c =
    let db = c.args.db.now in
    let r : c.from_residual-in_err-from.result ≡ Err c.in_err-from.field-0.0 = search rules in
    recast db r (no_from db (code_val db c.args.base.now) (code_val db c.args.range.0.now) (code_val db c.args.range.1.now) c.in_ok-base.base c.in_err-from.field-0.0 c.in_ok-base.ensures.value c.in_err-from.ensures.value)

pub slice-returns-in_err-count-clause-value : goal.slice-returns-in_err-count-clause-value
slice-returns-in_err-count-clause-value g t c =
    let db = c.args.db.now in
    let r : c.from_residual-in_err-count.result ≡ Err c.in_err-count.field-0.0 = search rules in
    recast db r (no_count db (code_val db c.args.base.now) (code_val db c.args.range.0.now) (code_val db c.args.range.1.now) c.in_ok-base.base c.in_ok-from.from c.in_err-count.field-0.0 c.in_ok-base.ensures.value c.in_ok-from.ensures.value c.in_err-count.ensures.value)

pub slice-returns-clause-value : goal.slice-returns-clause-value
slice-returns-clause-value g t c =
    let db = c.args.db.now in
    finish_slice db (code_val db c.args.base.now) (code_val db c.args.range.0.now) (code_val db c.args.range.1.now) c.in_ok-base.base c.in_ok-from.from c.in_ok-count.count c.in_ok-base.ensures.value c.in_ok-from.ensures.value c.in_ok-count.ensures.value c.slice.ensures

pub to_number-returns-in-Field-clause-value : goal.to_number-returns-in-Field-clause-value
to_number-returns-in-Field-clause-value g t c =
    let db = c.args.db.now in
    same db (field_number_at db (code_val db c.args.x.now) _ c.args.env.now (field_is db c.args.x.now c.in-Field.numbers c.args.env.now c.in-Field.is)) (gives db _ c.field_number.ensures)

pub converted-returns-in_err-x-clause-value : goal.converted-returns-in_err-x-clause-value
converted-returns-in_err-x-clause-value g t c =
    let db = c.args.db.now in
    let r : c.from_residual.result ≡ Err c.in_err-x.field-0.0 = search rules in
    recast db r (then_err db _ c.in_err-x.field-0.0 c.in_err-x.ensures.value)

pub converted-returns-clause-value : goal.converted-returns-clause-value
converted-returns-clause-value g t c =
    let db = c.args.db.now in
    finish_1 db (λ v. def.to_number (buf v)) c.in_ok-x.x c.in_ok-x.ensures.value c.to_number.ensures

pub length_of-returns-in_err-x-clause-value : goal.length_of-returns-in_err-x-clause-value
length_of-returns-in_err-x-clause-value g t c =
    let db = c.args.db.now in
    let r : c.from_residual.result ≡ Err c.in_err-x.field-0.0 = search rules in
    recast db r (then_err db _ c.in_err-x.field-0.0 c.in_err-x.ensures.value)

pub length_of-returns-clause-value : goal.length_of-returns-clause-value
length_of-returns-clause-value g t c =
    let db = c.args.db.now in
    finish_1 db (λ v. Ok (Num (length (buf v)))) c.in_ok-x.x c.in_ok-x.ensures.value (ap (λ (n : ℕ). Ok (Num n)) (sym c.length_of.ensures))

pub to_bytes-returns-in_err-x-clause-value : goal.to_bytes-returns-in_err-x-clause-value
to_bytes-returns-in_err-x-clause-value g t c =
    let db = c.args.db.now in
    let r : c.from_residual.result ≡ Err c.in_err-x.field-0.0 = search rules in
    recast db r (no_number db (code_val db c.args.x.now) (λ (n : ℕ). result (def.in_bytes c.args.size n)) c.in_err-x.field-0.0 c.in_err-x.ensures.value)

pub to_bytes-returns-clause-value : goal.to_bytes-returns-clause-value
to_bytes-returns-clause-value g t c =
    let db = c.args.db.now in
    finish_number db (code_val db c.args.x.now) (def.in_bytes c.args.size) c.in_ok-x.x c.in_ok-x.ensures.value (c.to_bytes.ensures _)

pub has_text-returns-in_err-x-clause-value : goal.has_text-returns-in_err-x-clause-value
has_text-returns-in_err-x-clause-value g t c =
    let db = c.args.db.now in
    let r : c.from_residual.result ≡ Err c.in_err-x.field-0.0 = search rules in
    recast db r (then_err db _ c.in_err-x.field-0.0 c.in_err-x.ensures.value)

pub has_text-returns-clause-value : goal.has_text-returns-clause-value
has_text-returns-clause-value g t c =
    let db = c.args.db.now in
    finish_1 db (λ v. Ok (truth (occurs c.args.text.now (buf v)))) c.in_ok-x.x c.in_ok-x.ensures.value (number_told c.has_text.ensures)

pub look_up-returns-in_err-keys-in-Some-clause-value : goal.look_up-returns-in_err-keys-in-Some-clause-value
look_up-returns-in_err-keys-in-Some-clause-value g t c =
    let db = c.args.db.now in
    let table = c.args.asked.table in
    let d = c.in-Some.declared.now in
    let there : slice_get db.tables table ≡ Some d = ap (λ (x : Database). slice_get x.tables table) (sym c.database.ensures.database) ∙ sym c.in-Some.ensures.value in
    let parts = map (code_val db) c.args.parts.now in
    let is = ap (λ (o : Option TableDecl). def.look_up o table c.args.asked.renew parts) there ∙ ap (λ (l : List KeyDecl). keys_then l parts table c.args.asked.renew) (sym c.as_slice-sizes.ensures) in
    let r : c.from_residual.result ≡ Err c.in_err-keys-in-Some.field-0.0 = search rules in
    recast db r (same_as db is (then_err db _ c.in_err-keys-in-Some.field-0.0 c.in_err-keys-in-Some.ensures.value))

pub look_up-look-requires-clause-fits : goal.look_up-look-requires-clause-fits
look_up-look-requires-clause-fits g t c =
    let db = c.args.db.now in
    let table = c.args.asked.table in
    let d = c.in-Some.declared.now in
    let there : slice_get db.tables table ≡ Some d = ap (λ (x : Database). slice_get x.tables table) (sym c.database.ensures.database) ∙ sym c.in-Some.ensures.value in
    look_is_fit db table table d (map (λ (k : KeyDecl). k.size) c.as_slice-sizes.result.now) c.in_ok-keys-in-Some.keys c.args.asked.renew there refl (ap (map (λ (k : KeyDecl). k.size)) c.as_slice-sizes.ensures) c.in_ok-keys-in-Some.ensures.fits

pub look_up-returns-in_ok-keys-in-Some-clause-value : goal.look_up-returns-in_ok-keys-in-Some-clause-value
look_up-returns-in_ok-keys-in-Some-clause-value g t c =
    let db = c.args.db.now in
    let table = c.args.asked.table in
    let d = c.in-Some.declared.now in
    let there : slice_get db.tables table ≡ Some d = ap (λ (x : Database). slice_get x.tables table) (sym c.database.ensures.database) ∙ sym c.in-Some.ensures.value in
    let parts = map (code_val db) c.args.parts.now in
    let is = ap (λ (o : Option TableDecl). def.look_up o table c.args.asked.renew parts) there ∙ ap (λ (l : List KeyDecl). keys_then l parts table c.args.asked.renew) (sym c.as_slice-sizes.ensures) in
    same_as db is (then_ok db _ c.in_ok-keys-in-Some.keys c.in_ok-keys-in-Some.ensures.value c.look.ensures.value)

pub keys-returns-then-parts-sizes-clause-value : goal.keys-returns-then-parts-sizes-clause-value
keys-returns-then-parts-sizes-clause-value g t c =
    let db = c.args.db.now in
    let sizes = map (λ (k : KeyDecl). k.size) c.args.sizes.now in
    let parts = map (code_val db) c.args.parts.now in
    let m = point c.args.env.now (g.A.Answers.content c.args.answers.now) (g.A.Answers.told c.args.answers.now) in
    let n = point c.loop-i.env (g.A.Answers.content c.loop-i.answers) (g.A.Answers.told c.loop-i.answers) in
    let i = c.loop-i.i in
    let end : i ≡ length c.args.parts.now = omega arith in
    let all : drop i parts ≡ [] = ap (λ (j : ℕ). drop j parts) end ∙ drop_all (code_val db) c.args.parts.now in
    let s = subst (λ (r : List (Eval Value)). Keys_so_far db sizes parts m c.loop-i.keys (drop i sizes) r n) all c.loop-i.invariant.so_far in
    key_missing db sizes parts m c.loop-i.keys (drop i sizes) n (drop_leaves (λ (k : KeyDecl). k.size) c.args.sizes.now i (omega arith)) s

pub keys-loop-i-init : goal.keys-loop-i-init
keys-loop-i-init g t c =
    record {
      database = refl;
      packet = refl;
      so_far = rw c.new-keys.ensures (no_keys_yet _ _ _ _);
    }

pub keys-returns-in_err-x-clause-value : goal.keys-returns-in_err-x-clause-value
keys-returns-in_err-x-clause-value g t c =
    let db = c.args.db.now in
    let sizes = map (λ (k : KeyDecl). k.size) c.args.sizes.now in
    let parts = map (code_val db) c.args.parts.now in
    let m = point c.args.env.now (g.A.Answers.content c.args.answers.now) (g.A.Answers.told c.args.answers.now) in
    let n = point c.loop-i.env (g.A.Answers.content c.loop-i.answers) (g.A.Answers.told c.loop-i.answers) in
    let i = c.loop-i.i in
    let k = point c.evaluate.new.env (g.A.Answers.content c.evaluate.new.answers) (g.A.Answers.told c.evaluate.new.answers) in
    let size = c.in-Some.declaration.now.size in
    let p = code_val db c.index-parts-i.result in
    let found : slice_get c.args.sizes.now i ≡ Some c.in-Some.declaration.now = sym c.in-Some.ensures in
    let s = keys_at db sizes parts m c.loop-i.keys i size p n (drop_some (λ (k : KeyDecl). k.size) c.args.sizes.now i c.in-Some.declaration.now found) (drop_at (code_val db) c.args.parts.now i c.index-parts-i.result c.loop-i-test.true c.index-parts-i.is) c.loop-i.invariant.so_far in
    let r : c.from_residual.result ≡ Err c.in_err-x.field-0.0 = search rules in
    recast db r (key_unevaluated db sizes parts m c.loop-i.keys size (drop (i + 1) sizes) p (drop (i + 1) parts) n c.in_err-x.field-0.0 k s c.in_err-x.ensures.value)

pub keys-returns-in_err-key-clause-value : goal.keys-returns-in_err-key-clause-value
keys-returns-in_err-key-clause-value g t c =
    let db = c.args.db.now in
    let sizes = map (λ (k : KeyDecl). k.size) c.args.sizes.now in
    let parts = map (code_val db) c.args.parts.now in
    let m = point c.args.env.now (g.A.Answers.content c.args.answers.now) (g.A.Answers.told c.args.answers.now) in
    let n = point c.loop-i.env (g.A.Answers.content c.loop-i.answers) (g.A.Answers.told c.loop-i.answers) in
    let i = c.loop-i.i in
    let k = point c.evaluate.new.env (g.A.Answers.content c.evaluate.new.answers) (g.A.Answers.told c.evaluate.new.answers) in
    let size = c.in-Some.declaration.now.size in
    let p = code_val db c.index-parts-i.result in
    let found : slice_get c.args.sizes.now i ≡ Some c.in-Some.declaration.now = sym c.in-Some.ensures in
    let s = keys_at db sizes parts m c.loop-i.keys i size p n (drop_some (λ (k : KeyDecl). k.size) c.args.sizes.now i c.in-Some.declaration.now found) (drop_at (code_val db) c.args.parts.now i c.index-parts-i.result c.loop-i-test.true c.index-parts-i.is) c.loop-i.invariant.so_far in
    let r : c.from_residual-in_err-key.result ≡ Err c.in_err-key.field-0.0 = search rules in
    recast db r (key_unmade db sizes parts m c.loop-i.keys size (drop (i + 1) sizes) p (drop (i + 1) parts) n c.in_ok-x.x c.in_err-key.field-0.0 k s c.in_ok-x.ensures.value c.in_err-key.ensures)

pub keys-returns-in_err-push-clause-value : goal.keys-returns-in_err-push-clause-value
keys-returns-in_err-push-clause-value g t c =
    let db = c.args.db.now in
    let sizes = map (λ (k : KeyDecl). k.size) c.args.sizes.now in
    let parts = map (code_val db) c.args.parts.now in
    let m = point c.args.env.now (g.A.Answers.content c.args.answers.now) (g.A.Answers.told c.args.answers.now) in
    let n = point c.loop-i.env (g.A.Answers.content c.loop-i.answers) (g.A.Answers.told c.loop-i.answers) in
    let i = c.loop-i.i in
    let k = point c.evaluate.new.env (g.A.Answers.content c.evaluate.new.answers) (g.A.Answers.told c.evaluate.new.answers) in
    let size = c.in-Some.declaration.now.size in
    let p = code_val db c.index-parts-i.result in
    let found : slice_get c.args.sizes.now i ≡ Some c.in-Some.declaration.now = sym c.in-Some.ensures in
    let s = keys_at db sizes parts m c.loop-i.keys i size p n (drop_some (λ (k : KeyDecl). k.size) c.args.sizes.now i c.in-Some.declaration.now found) (drop_at (code_val db) c.args.parts.now i c.index-parts-i.result c.loop-i-test.true c.index-parts-i.is) c.loop-i.invariant.so_far in
    let r : c.from_residual-in_err-push.result ≡ Err Refused = search rules in
    recast db r ((key_made db sizes parts m c.loop-i.keys size (drop (i + 1) sizes) p (drop (i + 1) parts) n c.in_ok-x.x c.in_ok-key.field-0 k s c.in_ok-x.ensures.value c.in_ok-key.ensures).goes (Err Refused) k (refused db _))

pub keys-loop-i-preserved : goal.keys-loop-i-preserved
keys-loop-i-preserved g t c =
    let db = c.args.db.now in
    let sizes = map (λ (k : KeyDecl). k.size) c.args.sizes.now in
    let parts = map (code_val db) c.args.parts.now in
    let m = point c.args.env.now (g.A.Answers.content c.args.answers.now) (g.A.Answers.told c.args.answers.now) in
    let n = point c.loop-i.env (g.A.Answers.content c.loop-i.answers) (g.A.Answers.told c.loop-i.answers) in
    let i = c.loop-i.i in
    let k = point c.evaluate.new.env (g.A.Answers.content c.evaluate.new.answers) (g.A.Answers.told c.evaluate.new.answers) in
    let size = c.in-Some.declaration.now.size in
    let p = code_val db c.index-parts-i.result in
    let found : slice_get c.args.sizes.now i ≡ Some c.in-Some.declaration.now = sym c.in-Some.ensures in
    let s = keys_at db sizes parts m c.loop-i.keys i size p n (drop_some (λ (k : KeyDecl). k.size) c.args.sizes.now i c.in-Some.declaration.now found) (drop_at (code_val db) c.args.parts.now i c.index-parts-i.result c.loop-i-test.true c.index-parts-i.is) c.loop-i.invariant.so_far in
    record {
      database = search rules;
      packet = search rules;
      so_far = rw c.in_ok-push.ensures.pushed (key_made db sizes parts m c.loop-i.keys size (drop (i + 1) sizes) p (drop (i + 1) parts) n c.in_ok-x.x c.in_ok-key.field-0 k s c.in_ok-x.ensures.value c.in_ok-key.ensures);
    }

pub keys-returns-in-None : goal.keys-returns-in-None
keys-returns-in-None g t c =
    let db = c.args.db.now in
    let sizes = map (λ (k : KeyDecl). k.size) c.args.sizes.now in
    let parts = map (code_val db) c.args.parts.now in
    let m = point c.args.env.now (g.A.Answers.content c.args.answers.now) (g.A.Answers.told c.args.answers.now) in
    let n = point c.loop-i.env (g.A.Answers.content c.loop-i.answers) (g.A.Answers.told c.loop-i.answers) in
    let i = c.loop-i.i in
    let past : slice_get c.args.sizes.now i ≡ None = sym c.in-None.ensures in
    let s = subst (λ (l : List ℕ). Keys_so_far db sizes parts m c.loop-i.keys l (drop i parts) n) (drop_past (λ (k : KeyDecl). k.size) c.args.sizes.now i past) c.loop-i.invariant.so_far in
    record {
      database = c.loop-i.invariant.database;
      packet = c.loop-i.invariant.packet;
      fits = keys_fitted db sizes parts m c.loop-i.keys (drop i parts) n s;
      value = keys_end db sizes parts m c.loop-i.keys (drop i parts) n s;
    }

pub keys-returns : goal.keys-returns
keys-returns g t c =
    let db = c.args.db.now in
    let sizes = map (λ (k : KeyDecl). k.size) c.args.sizes.now in
    let parts = map (code_val db) c.args.parts.now in
    let m = point c.args.env.now (g.A.Answers.content c.args.answers.now) (g.A.Answers.told c.args.answers.now) in
    let n = point c.loop-i.env (g.A.Answers.content c.loop-i.answers) (g.A.Answers.told c.loop-i.answers) in
    let i = c.loop-i.i in
    let none : drop i sizes ≡ [] = drop_beyond (λ (k : KeyDecl). k.size) c.args.sizes.now i (omega arith) in
    let s = subst (λ (l : List ℕ). Keys_so_far db sizes parts m c.loop-i.keys l (drop i parts) n) none c.loop-i.invariant.so_far in
    record {
      database = c.loop-i.invariant.database;
      packet = c.loop-i.invariant.packet;
      fits = keys_fitted db sizes parts m c.loop-i.keys (drop i parts) n s;
      value = keys_end db sizes parts m c.loop-i.keys (drop i parts) n s;
    }
