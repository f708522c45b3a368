use Rattle.std.proofs.Common.{◌≡◌, ◌≤◌, ◌+◌, ◌++◌, length, map, drop, vec_len, vec_capacity, Some}
use Rattle.std.specs.Prelude.{zip}
use Rattle.db_model.specs.Table.{masked, masked_by}
use Rattle.table_list.proofs.room.Room+Bytes.filled_masked.Given as goal

abbrev pub invariant-loop-i : goal.invariant-loop-i
invariant-loop-i l = record {
  held : l.list.items ++ map (λ p. masked p.0 p.1) (zip (drop l.i l.masks) (drop l.i l.keys)) ≡ masked_by (Some l.masks) l.keys;
  len : vec_len l.list ≡ l.i;
  room : length l.keys ≤ vec_capacity l.list;
  count : length l.keys ≤ l.buffers.count + l.i;
  width : l.buffers.width ≡ l.fn.self.width;
}
