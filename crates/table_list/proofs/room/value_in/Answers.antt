use Rattle.std.proofs.Common.{subst, arith}
use Rattle.db_model.specs.declared.value.Value.TheVariants.{Buf}
use Rattle.table_list.specs.Space.{IsShort}
use Rattle.table_list.proofs.room.value_in.Goals as goal

pub filled-requires : goal.filled-requires
filled-requires c =
    let s : IsShort c.args.buffers.now.width (Buf c.in-Buf.bytes) = subst (IsShort c.args.buffers.now.width) c.in-Buf.is c.requires.short in
    omega (arith, s, c.take.ensures.room)
