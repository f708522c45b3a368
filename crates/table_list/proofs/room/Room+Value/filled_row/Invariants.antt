use Rattle.std.proofs.Common.{◌≡◌, ◌≤◌, ◌+◌, length, take, vec_len, vec_capacity}
use Rattle.table_list.proofs.room.Room+Value.filled_row.Given as goal

abbrev pub invariant-loop-value : goal.invariant-loop-value
invariant-loop-value l = record {
  held : l.list.items ≡ take l.value-index l.row;
  len : vec_len l.list ≡ l.value-index;
  room : length l.row ≤ vec_capacity l.list;
  count : length l.row ≤ l.buffers.count + l.value-index;
  width : l.buffers.width ≡ l.fn.self.width;
}
