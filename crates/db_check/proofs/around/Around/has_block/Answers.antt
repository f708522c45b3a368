use Rattle.std.proofs.Common.{◌∙◌, ap, length, List, Option}
use Rattle.std.specs.Prelude.{nat_lt}
use Rattle.db_model.specs.declared.database.NamedBlock.{NamedBlock}
use Rattle.db_model.specs.declared.database.Protocol.{Protocol}
use Rattle.db_model.specs.NameIndex.{block_number_at}
use Rattle.db_model.specs.Numbering.{blocks_in}
use Rattle.expr_type.proofs.Declared.{declared_among}
use Rattle.db_check.proofs.around.Around.has_block.Goals as goal

pub returns : goal.returns
returns c =
    ap (λ (l : List NamedBlock). nat_lt c.block_at-place.result (length l)) c.named_blocks.ensures
    ∙ declared_among (λ (b : NamedBlock). b.name) (blocks_in c.args.self.now.protocol.now.format) c.args.name.now c.block_at-place.result (c.block_at-place.ensures ∙ ap (λ (o : Option Protocol). block_number_at o c.args.name.now) c.requires.protocol_is)
