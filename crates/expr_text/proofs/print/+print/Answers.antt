use Rattle.std.proofs.Common.{sym, ap, ◌∙◌, arith}
use Rattle.db_model.specs.declared.expression.Expr as expr
use Rattle.expr_text.proofs.PrintedForms.{adds_form, two_pieces, more_arguments, adds_conjunction, adds_disjunction, adds_slice, printing_not, printing_and, printing_or, printing_binary, printing_slice, printing_to_number, printing_length_of, printing_to_bytes, printing_has_text, printing_look_up}
use Rattle.expr_text.proofs.print.+print.Goals as goal

pub push_expr-returns-in-Not : goal.push_expr-returns-in-Not
push_expr-returns-in-Not t c = adds_form c.args.e.now _ _ _ _ _ (c.in-Not.is ∙ ap expr.Not (sym c.get.ensures)) (printing_not c.get.result.now) c.push_negation.ensures

pub push_expr-returns-in-ToNumber : goal.push_expr-returns-in-ToNumber
push_expr-returns-in-ToNumber t c = adds_form c.args.e.now _ _ _ _ _ (c.in-ToNumber.is ∙ ap expr.ToNumber (sym c.get-in-ToNumber.ensures)) (printing_to_number c.get-in-ToNumber.result.now) c.push_number_call.ensures

pub push_expr-returns-in-LengthOf : goal.push_expr-returns-in-LengthOf
push_expr-returns-in-LengthOf t c = adds_form c.args.e.now _ _ _ _ _ (c.in-LengthOf.is ∙ ap expr.LengthOf (sym c.get-in-LengthOf.ensures)) (printing_length_of c.get-in-LengthOf.result.now) c.push_length_call.ensures

pub push_expr-returns-in-ToBytes : goal.push_expr-returns-in-ToBytes
push_expr-returns-in-ToBytes t c = adds_form c.args.e.now _ _ _ _ _ (c.in-ToBytes.is ∙ ap (λ x. expr.ToBytes x c.in-ToBytes.size) (sym c.get-in-ToBytes.ensures)) (printing_to_bytes c.get-in-ToBytes.result.now c.in-ToBytes.size) c.push_bytes_call.ensures

pub push_expr-returns-in-HasText : goal.push_expr-returns-in-HasText
push_expr-returns-in-HasText t c = adds_form c.args.e.now _ _ _ _ _ (c.in-HasText.is ∙ (λ i. expr.HasText (sym c.get-in-HasText.ensures i) (sym c.as_slice-in-HasText.ensures.bytes i))) (printing_has_text c.get-in-HasText.result.now c.as_slice-in-HasText.result.now) c.push_text_call.ensures

pub push_expr-returns-in-LookUp : goal.push_expr-returns-in-LookUp
push_expr-returns-in-LookUp t c = adds_form c.args.e.now _ _ _ _ _ (c.in-LookUp.is ∙ ap (expr.LookUp c.in-LookUp.table c.in-LookUp.renew) (sym c.as_slice-in-LookUp.ensures)) (printing_look_up c.in-LookUp.table c.in-LookUp.renew c.as_slice-in-LookUp.result.now) c.push_look_up.ensures

pub push_expr-returns-in_ok-push_left_word-in-And : goal.push_expr-returns-in_ok-push_left_word-in-And
push_expr-returns-in_ok-push_left_word-in-And t c = adds_form c.args.e.now _ _ _ _ _ (c.in-And.is ∙ (λ i. expr.And (sym c.get-in-And.ensures i) (sym c.get-in-And-2.ensures i))) (printing_and c.get-in-And.result.now c.get-in-And-2.result.now) (adds_conjunction c.push_operand.result c.args.text.now.items c.push_left_word.new.text.items c.push_operand.new.text.items _ _ c.in_ok-push_left_word-in-And.ensures c.push_operand.ensures)

pub push_expr-returns-in_ok-push_left_word-in-Or : goal.push_expr-returns-in_ok-push_left_word-in-Or
push_expr-returns-in_ok-push_left_word-in-Or t c = adds_form c.args.e.now _ _ _ _ _ (c.in-Or.is ∙ (λ i. expr.Or (sym c.get-in-Or.ensures i) (sym c.get-in-Or-2.ensures i))) (printing_or c.get-in-Or.result.now c.get-in-Or-2.result.now) (adds_disjunction c.push_operand-in-Or.result c.args.text.now.items c.push_left_word-in-Or.new.text.items c.push_operand-in-Or.new.text.items _ _ c.in_ok-push_left_word-in-Or.ensures c.push_operand-in-Or.ensures)

pub push_expr-returns-in_ok-push_left_operator-in-Binary : goal.push_expr-returns-in_ok-push_left_operator-in-Binary
push_expr-returns-in_ok-push_left_operator-in-Binary t c = adds_form c.args.e.now _ _ _ _ _ (c.in-Binary.is ∙ (λ i. expr.Binary c.in-Binary.operator (sym c.get-in-Binary.ensures i) (sym c.get-in-Binary-2.ensures i))) (printing_binary c.in-Binary.operator c.get-in-Binary.result.now c.get-in-Binary-2.result.now) (two_pieces c.push_operand-in-Binary.result c.args.text.now.items c.push_left_operator.new.text.items c.push_operand-in-Binary.new.text.items _ _ _ c.in_ok-push_left_operator-in-Binary.ensures c.push_operand-in-Binary.ensures)

pub push_expr-returns-in_ok-push_before-in-Slice : goal.push_expr-returns-in_ok-push_before-in-Slice
push_expr-returns-in_ok-push_before-in-Slice t c = adds_form c.args.e.now _ _ _ _ _ (c.in-Slice.is ∙ (λ i. expr.Slice (sym c.get-in-Slice.ensures i) (sym c.get-in-Slice-2.ensures i) (sym c.get-in-Slice-3.ensures i))) (printing_slice c.get-in-Slice.result.now c.get-in-Slice-2.result.now c.get-in-Slice-3.result.now) (adds_slice c.push_before-in-Slice.result c.args.text.now.items c.push_left.new.text.items c.push_before.new.text.items c.push_before-in-Slice.new.text.items _ _ _ c.in_ok-push_left-in-Slice.ensures c.in_ok-push_before-in-Slice.ensures c.push_before-in-Slice.ensures)

pub push_arguments-loop-key-preserved : goal.push_arguments-loop-key-preserved
push_arguments-loop-key-preserved t c = more_arguments c.loop-key.text.items c.push.new.text.items c.push_expr.new.text.items c.args.keys.now c.loop-key.key-index c.key-item.result (omega arith) c.key-item.is c.in_ok-push.ensures c.in_ok-push_expr.ensures ∙ c.loop-key.invariant
