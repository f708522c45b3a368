use Rattle.std.proofs.Common.{◌≡◌, take}
use Rattle.std.specs.List.{flat_map}
use Rattle.show.specs.Markup.{entity}
use Rattle.show.proofs.markup.is_plain.Given as goal

abbrev pub invariant-loop-byte : goal.invariant-loop-byte
invariant-loop-byte l = flat_map entity (take l.byte-index l.bytes) ≡ take l.byte-index l.bytes
