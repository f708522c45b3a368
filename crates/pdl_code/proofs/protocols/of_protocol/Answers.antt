use Rattle.pdl_code.proofs.Whole.{protocol_wrote}
use Rattle.pdl_code.proofs.protocols.of_protocol.Goals as goal

pub returns : goal.returns
returns c = protocol_wrote c.args.scope.now c.args.protocol.now c.blocks_in.result.now c.new-ops.result c.own_list.new.ops c.named.new.ops c.in_ok-blocks.blocks c.in_ok-at.at c.new-ops.ensures c.blocks_in.ensures c.in_ok-at.ensures c.in_ok-blocks.ensures
