use Rattle.std.proofs.Common.{◌≡◌, ◌^◌, ◌<◌, take}
use Rattle.db_model.specs.Numbers.{number_from}
use Rattle.show.proofs.value.big_endian.Given as goal

abbrev pub invariant-loop-byte : goal.invariant-loop-byte
invariant-loop-byte l = (l.number ≡ number_from 0 (take l.byte-index l.bytes)) × (l.number < 256 ^ l.byte-index)
