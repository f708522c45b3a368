use Rattle.std.proofs.Common.{◌+◌, max, map, fold, drop, ap, sym, ◌∙◌, arith}
use Rattle.db_model.specs.Forms.{depth_of, deepest}
use Rattle.expr_text.specs.Sizes.{capped}
use Rattle.expr_text.proofs.Counting.{one_part, two_parts, three_parts, key_parts, deep_not, deep_and, deep_or, deep_binary, deep_slice, deep_to_number, deep_length_of, deep_to_bytes, deep_has_text, deep_look_up, deep_step, deep_end}
use Rattle.expr_text.proofs.sizes.+depth.Goals as goal

pub depth-returns-in-Not : goal.depth-returns-in-Not
depth-returns-in-Not t c = one_part depth_of _ _ _ _ _ _ c.in-Not.is (deep_not c.in-Not.a) c.get.ensures c.depth.ensures c.more.ensures

pub depth-returns-in-And : goal.depth-returns-in-And
depth-returns-in-And t c = two_parts depth_of max _ _ _ _ _ _ _ _ _ _ c.in-And.is (deep_and c.in-And.a c.in-And.b) c.get-in-And.ensures c.depth-in-And.ensures c.get-in-And-2.ensures c.depth-in-And-2.ensures c.greatest.ensures c.more-in-And.ensures

pub depth-returns-in-Or : goal.depth-returns-in-Or
depth-returns-in-Or t c = two_parts depth_of max _ _ _ _ _ _ _ _ _ _ c.in-Or.is (deep_or c.in-Or.a c.in-Or.b) c.get-in-Or.ensures c.depth-in-Or.ensures c.get-in-Or-2.ensures c.depth-in-Or-2.ensures c.greatest-in-Or.ensures c.more-in-Or.ensures

pub depth-returns-in-Binary : goal.depth-returns-in-Binary
depth-returns-in-Binary t c = two_parts depth_of max _ _ _ _ _ _ _ _ _ _ c.in-Binary.is (deep_binary c.in-Binary.field-0 c.in-Binary.a c.in-Binary.b) c.get-in-Binary.ensures c.depth-in-Binary.ensures c.get-in-Binary-2.ensures c.depth-in-Binary-2.ensures c.greatest-in-Binary.ensures c.more-in-Binary.ensures

pub depth-returns-in-Slice : goal.depth-returns-in-Slice
depth-returns-in-Slice t c = three_parts depth_of max _ _ _ _ _ _ _ _ _ _ _ _ _ _ c.in-Slice.is (deep_slice c.in-Slice.base c.in-Slice.from c.in-Slice.count) c.get-in-Slice.ensures c.depth-in-Slice.ensures c.get-in-Slice-2.ensures c.depth-in-Slice-2.ensures c.get-in-Slice-3.ensures c.depth-in-Slice-3.ensures c.greatest-in-Slice.ensures c.greatest-in-Slice-2.ensures c.more-in-Slice.ensures

pub depth-returns-in-ToNumber : goal.depth-returns-in-ToNumber
depth-returns-in-ToNumber t c = one_part depth_of _ _ _ _ _ _ c.in-ToNumber.is (deep_to_number c.in-ToNumber.a) c.get-in-ToNumber.ensures c.depth-in-ToNumber.ensures c.more-in-ToNumber.ensures

pub depth-returns-in-LengthOf : goal.depth-returns-in-LengthOf
depth-returns-in-LengthOf t c = one_part depth_of _ _ _ _ _ _ c.in-LengthOf.is (deep_length_of c.in-LengthOf.a) c.get-in-LengthOf.ensures c.depth-in-LengthOf.ensures c.more-in-LengthOf.ensures

pub depth-returns-in-ToBytes : goal.depth-returns-in-ToBytes
depth-returns-in-ToBytes t c = one_part depth_of _ _ _ _ _ _ c.in-ToBytes.is (deep_to_bytes c.in-ToBytes.value c.in-ToBytes.size) c.get-in-ToBytes.ensures c.depth-in-ToBytes.ensures c.more-in-ToBytes.ensures

pub depth-returns-in-HasText : goal.depth-returns-in-HasText
depth-returns-in-HasText t c = one_part depth_of _ _ _ _ _ _ c.in-HasText.is (deep_has_text c.in-HasText.within c.in-HasText.text) c.get-in-HasText.ensures c.depth-in-HasText.ensures c.more-in-HasText.ensures

pub depth-returns-in-LookUp : goal.depth-returns-in-LookUp
depth-returns-in-LookUp t c = key_parts depth_of (λ ks. deepest (map depth_of ks)) _ _ _ _ _ _ c.in-LookUp.is (deep_look_up c.in-LookUp.table c.in-LookUp.renew c.in-LookUp.keys) c.as_slice.ensures c.deepest.ensures c.more-in-LookUp.ensures

pub deepest-returns : goal.deepest-returns
deepest-returns t c = sym (deep_end c.args.keys.now c.loop-key.key-index c.loop-key.most (omega arith) (omega arith)) ∙ c.loop-key.invariant.0

pub deepest-loop-key-preserved : goal.deepest-loop-key-preserved
deepest-loop-key-preserved t c = (
  ap (λ m. capped (fold max m (map depth_of (drop (c.loop-key.key-index + 1) c.args.keys.now)))) (c.greatest-most.ensures ∙ ap (λ d. max c.loop-key.most d) c.depth.ensures)
      ∙ deep_step c.args.keys.now c.loop-key.key-index c.key-item.result c.loop-key.most (omega arith) c.key-item.is
      ∙ c.loop-key.invariant.0,
  omega arith,
)
