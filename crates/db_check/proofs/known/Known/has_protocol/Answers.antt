use Rattle.std.proofs.Common.{◌∙◌, ap, length, List}
use Rattle.std.specs.Prelude.{nat_lt}
use Rattle.db_model.specs.declared.database.Protocol.{Protocol}
use Rattle.expr_type.proofs.Declared.{declared_among}
use Rattle.db_check.proofs.known.Known.has_protocol.Goals as goal

pub returns : goal.returns
returns c =
    ap (λ (l : List Protocol). nat_lt c.protocol_at-place.result (length l)) c.as_slice.ensures
    ∙ declared_among (λ (d : Protocol). d.name) c.args.self.now.database.now.protocols c.args.name.now c.protocol_at-place.result c.protocol_at-place.ensures.place
