use Rattle.std.proofs.Common.{◌≡◌, List, map, subst}
use Rattle.db_model.specs.declared.database.NamedBlock.{NamedBlock}
use Rattle.db_model.specs.NameIndex.{IsPlaces, block_names}
use Rattle.db_model.proofs.Placed.{walk_places}
use Rattle.db_model.proofs.name_index.blocks_of.Goals as goal

pub loop-protocol-preserved : goal.loop-protocol-preserved
loop-protocol-preserved c =
    walk_places block_names c.args.protocols.now c.loop-protocol.protocol-index c.protocol-item.result c.loop-protocol.all c.push.new.self c.in_ok-of.field-0 c.loop-protocol-test.true c.protocol-item.is c.loop-protocol.invariant
    (subst (λ (l : List NamedBlock). IsPlaces (map (λ (d : NamedBlock). d.name) l) c.in_ok-of.field-0) c.named_blocks.ensures c.in_ok-of.ensures) c.in_ok-push.ensures.pushed
