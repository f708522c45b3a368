use Rattle.std.proofs.Common.{◌≡◌, ◌≤◌, ◌++◌, length, map, drop, vec_len, vec_capacity}
use Rattle.std.specs.Prelude.{zip, bit_and}
use Rattle.db_model.specs.Table.{masked}
use Rattle.table_list.proofs.buffer.Buffer.filled_masked.Given as goal

abbrev pub invariant-loop-i : goal.invariant-loop-i
invariant-loop-i l = record {
  held : l.bytes.items ++ map (λ p. bit_and p.0 p.1) (zip (drop l.i l.bits) (drop l.i l.kept)) ≡ masked l.bits l.kept;
  len : vec_len l.bytes ≡ l.i;
  room : length l.kept ≤ vec_capacity l.bytes;
}
