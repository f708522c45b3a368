use Rattle.std.proofs.Common.{◌+◌, map, sum, drop, sym, ap, ◌∙◌, arith}
use Rattle.db_model.specs.Forms.{nodes_of}
use Rattle.expr_text.specs.Sizes.{capped}
use Rattle.expr_text.proofs.Counting.{one_part, two_parts, three_parts, key_parts, capped_not, capped_and, capped_or, capped_binary, capped_slice, capped_to_number, capped_length_of, capped_to_bytes, capped_has_text, capped_look_up, sum_step, sum_end}
use Rattle.expr_text.proofs.sizes.+nodes.Goals as goal

pub nodes-returns-in-Not : goal.nodes-returns-in-Not
nodes-returns-in-Not t c = one_part nodes_of _ _ _ _ _ _ c.in-Not.is (capped_not c.in-Not.a) c.get.ensures c.nodes.ensures c.more.ensures

pub nodes-returns-in-And : goal.nodes-returns-in-And
nodes-returns-in-And t c = two_parts nodes_of (λ n m. capped (n + m)) _ _ _ _ _ _ _ _ _ _ c.in-And.is (capped_and c.in-And.a c.in-And.b) c.get-in-And.ensures c.nodes-in-And.ensures c.get-in-And-2.ensures c.nodes-in-And-2.ensures c.total.ensures c.more-in-And.ensures

pub nodes-returns-in-Or : goal.nodes-returns-in-Or
nodes-returns-in-Or t c = two_parts nodes_of (λ n m. capped (n + m)) _ _ _ _ _ _ _ _ _ _ c.in-Or.is (capped_or c.in-Or.a c.in-Or.b) c.get-in-Or.ensures c.nodes-in-Or.ensures c.get-in-Or-2.ensures c.nodes-in-Or-2.ensures c.total-in-Or.ensures c.more-in-Or.ensures

pub nodes-returns-in-Binary : goal.nodes-returns-in-Binary
nodes-returns-in-Binary t c = two_parts nodes_of (λ n m. capped (n + m)) _ _ _ _ _ _ _ _ _ _ c.in-Binary.is (capped_binary c.in-Binary.field-0 c.in-Binary.a c.in-Binary.b) c.get-in-Binary.ensures c.nodes-in-Binary.ensures c.get-in-Binary-2.ensures c.nodes-in-Binary-2.ensures c.total-in-Binary.ensures c.more-in-Binary.ensures

pub nodes-returns-in-Slice : goal.nodes-returns-in-Slice
nodes-returns-in-Slice t c = three_parts nodes_of (λ n m. capped (n + m)) _ _ _ _ _ _ _ _ _ _ _ _ _ _ c.in-Slice.is (capped_slice c.in-Slice.base c.in-Slice.from c.in-Slice.count) c.get-in-Slice.ensures c.nodes-in-Slice.ensures c.get-in-Slice-2.ensures c.nodes-in-Slice-2.ensures c.get-in-Slice-3.ensures c.nodes-in-Slice-3.ensures c.total-in-Slice.ensures c.total-in-Slice-2.ensures c.more-in-Slice.ensures

pub nodes-returns-in-ToNumber : goal.nodes-returns-in-ToNumber
nodes-returns-in-ToNumber t c = one_part nodes_of _ _ _ _ _ _ c.in-ToNumber.is (capped_to_number c.in-ToNumber.a) c.get-in-ToNumber.ensures c.nodes-in-ToNumber.ensures c.more-in-ToNumber.ensures

pub nodes-returns-in-LengthOf : goal.nodes-returns-in-LengthOf
nodes-returns-in-LengthOf t c = one_part nodes_of _ _ _ _ _ _ c.in-LengthOf.is (capped_length_of c.in-LengthOf.a) c.get-in-LengthOf.ensures c.nodes-in-LengthOf.ensures c.more-in-LengthOf.ensures

pub nodes-returns-in-ToBytes : goal.nodes-returns-in-ToBytes
nodes-returns-in-ToBytes t c = one_part nodes_of _ _ _ _ _ _ c.in-ToBytes.is (capped_to_bytes c.in-ToBytes.value c.in-ToBytes.size) c.get-in-ToBytes.ensures c.nodes-in-ToBytes.ensures c.more-in-ToBytes.ensures

pub nodes-returns-in-HasText : goal.nodes-returns-in-HasText
nodes-returns-in-HasText t c = one_part nodes_of _ _ _ _ _ _ c.in-HasText.is (capped_has_text c.in-HasText.within c.in-HasText.text) c.get-in-HasText.ensures c.nodes-in-HasText.ensures c.more-in-HasText.ensures

pub nodes-returns-in-LookUp : goal.nodes-returns-in-LookUp
nodes-returns-in-LookUp t c = key_parts nodes_of (λ ks. sum (map nodes_of ks)) _ _ _ _ _ _ c.in-LookUp.is (capped_look_up c.in-LookUp.table c.in-LookUp.renew c.in-LookUp.keys) c.as_slice.ensures c.nodes_in.ensures c.more-in-LookUp.ensures

pub nodes_in-returns : goal.nodes_in-returns
nodes_in-returns t c = sym (sum_end c.args.keys.now c.loop-key.key-index c.loop-key.sum (omega arith) (omega arith)) ∙ c.loop-key.invariant.0

pub nodes_in-loop-key-preserved : goal.nodes_in-loop-key-preserved
nodes_in-loop-key-preserved t c = (
  ap (λ s. capped (s + sum (map nodes_of (drop (c.loop-key.key-index + 1) c.args.keys.now)))) (c.total-sum.ensures ∙ ap (λ n. capped (c.loop-key.sum + n)) c.nodes.ensures)
      ∙ sum_step c.args.keys.now c.loop-key.key-index c.key-item.result c.loop-key.sum (omega arith) c.key-item.is
      ∙ c.loop-key.invariant.0,
  omega arith,
)
