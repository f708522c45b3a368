use Rattle.std.proofs.Common.{ℕ, List, ◌∙◌, ap, arith, Some}
use Rattle.db_model.specs.Table.{masked, masked_by}
use Rattle.table_list.proofs.Zips.{filled_end}
use Rattle.table_list.proofs.room.Room+Bytes.filled_masked.Goals as goal

pub returns : goal.returns
returns c =
    c.from_vec.ensures
    ∙ filled_end (λ (p : List ℕ × List ℕ). masked p.0 p.1) c.args.masks.now c.args.keys.now c.loop-i.list.items (masked_by (Some c.args.masks.now) c.args.keys.now) c.loop-i.i (omega (arith, c.min-i-end.ensures, c.loop-i-test.false)) c.loop-i.invariant.held
