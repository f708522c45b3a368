-- What a tap is told of a packet.
use Rattle.std.specs.Prelude.{ℕ, List, map, length}
use Rattle.db_model.specs.declared.packet.Packet.{Packet}
use Rattle.db_model.specs.declared.tree.Proto.{Proto}
use Rattle.tap_bus.specs.declared.told.Told.{Told}

-- the numbers of the protocols of a tree
abbrev pub numbers_of : List Proto → List ℕ
numbers_of tree = map (λ (proto : Proto). proto.number) tree

-- number, moment and captured length of a packet, and the protocols of its tree
abbrev pub told_of : Packet → List Proto → Told
told_of packet tree = record { number = packet.number; stamp = packet.stamp; caplen = length packet.bytes; protos = numbers_of tree }
