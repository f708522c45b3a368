use Rattle.std.proofs.Common.{◌≡◌, ◌∙◌, ◌+◌, ap, length}
use Rattle.db_model.specs.Numbering.{plus, a_block}
use Rattle.pdl_code.specs.Coding.{ended, codes_in}
use Rattle.pdl_code.specs.Parts.{counts}
use Rattle.pdl_code.proofs.Whole.{as_list, ended_length}
use Rattle.pdl_code.proofs.Walks.{blocks_written, starts_written}
use Rattle.pdl_code.proofs.protocols.named.Goals as goal

pub loop-block-preserved : goal.loop-block-preserved
loop-block-preserved c =
    let s = c.args.scope.now in
    let db = s.db.now in
    let q = s.protocol in
    let x = c.block-item.result in
    let inside = c.in_ok-inside.inside in
    let w = as_list s c.as_slice.result.now x.body c.loop-block.ops c.list.new.ops inside c.in_ok-to.to c.as_slice.ensures c.in_ok-to.ensures in
    let long : length c.push-in-loop-block.new.self ≡ length c.loop-block.ops + length (ended (codes_in db q x.body (plus (counts c.loop-block.to) a_block))) =
    ended_length c.loop-block.ops (codes_in db q x.body (counts inside)) c.list.new.ops c.push-in-loop-block.new.self w.ops c.in_ok-push-2.ensures.ok
    ∙ ap (λ k. length c.loop-block.ops + length (ended (codes_in db q x.body k))) c.in_ok-inside.ensures in
    record {
      written = blocks_written db q c.args.blocks.now c.loop-block.block-index x c.loop-block-test.true c.block-item.is (counts c.loop-block.to) (counts inside) (counts c.in_ok-to.to) c.in_ok-inside.ensures w.place c.loop-block.ops c.list.new.ops c.push-in-loop-block.new.self _ w.ops c.in_ok-push-2.ensures.ok c.loop-block.invariant.written;
      begun = starts_written db q c.args.blocks.now c.loop-block.block-index x c.loop-block-test.true c.block-item.is (counts c.loop-block.to) (counts inside) (counts c.in_ok-to.to) c.in_ok-inside.ensures w.place (length c.loop-block.ops) (length c.push-in-loop-block.new.self) c.loop-block.starts c.push.new.self _ (record { number = c.loop-block.to.blocks; at = c.len.result }) c.in_ok-push.ensures.ok (λ i. record { number = c.loop-block.to.blocks; at = c.len.ensures i }) long c.loop-block.invariant.begun;
    }
