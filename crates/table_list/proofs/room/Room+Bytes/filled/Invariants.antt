use Rattle.std.proofs.Common.{◌≡◌, ◌≤◌, ◌+◌, length, take, vec_len, vec_capacity}
use Rattle.table_list.proofs.room.Room+Bytes.filled.Given as goal

abbrev pub invariant-loop-key : goal.invariant-loop-key
invariant-loop-key l = record {
  held : l.list.items ≡ take l.key-index l.keys;
  len : vec_len l.list ≡ l.key-index;
  room : length l.keys ≤ vec_capacity l.list;
  count : length l.keys ≤ l.buffers.count + l.key-index;
  width : l.buffers.width ≡ l.fn.self.width;
}
