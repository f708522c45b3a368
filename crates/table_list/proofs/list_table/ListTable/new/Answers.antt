use Rattle.table_list.proofs.Sound.{sound_new}
use Rattle.table_list.proofs.list_table.ListTable.new.Goals as goal

pub invariant_of-result : goal.invariant_of-result
invariant_of-result c = sound_new c.args.decl.now c.in_ok-copied.field-0 c.key_space.result c.row_space.result c.new.result c.new-2.result.items c.in_ok-copied.ensures c.key_space.ensures c.row_space.ensures c.new.ensures.content c.new.ensures.room c.new-2.ensures.items
