use Rattle.std.proofs.Common.{◌≡◌, ◌+◌, ◌*◌, ◌≤◌, ◌++◌, drop, length}
use Rattle.std.specs.Prelude.{vec_capacity, vec_len}
use Rattle.hex.specs.Hex.{encode_lower}
use Rattle.show.proofs.text.push_hex.Given as goal

abbrev pub invariant-loop-byte : goal.invariant-loop-byte
invariant-loop-byte l = record {
  text : l.text.items ++ encode_lower (drop l.byte-index l.bytes) ≡ l.fn.text.items ++ encode_lower l.bytes;
  room : vec_len l.text + 2 * length l.bytes ≤ vec_capacity l.text + 2 * l.byte-index;
}
