use Rattle.std.proofs.Common.{◌≡◌, ◌++◌, take}
use Rattle.std.specs.List.{flat_map}
use Rattle.show.specs.Shown.{character}
use Rattle.show.proofs.Writing.{each_written}
use Rattle.show.proofs.value.push_each_character.Given as goal

abbrev pub invariant-loop-byte : goal.invariant-loop-byte
invariant-loop-byte l = l.text.items ≡ l.fn.text.items ++ flat_map (each_written l.form character) (take l.byte-index l.bytes)
