use Rattle.std.proofs.Common.{◌≡◌, take}
use Rattle.tap_bus.specs.Told.{numbers_of}
use Rattle.tap_bus.proofs.protos.ProtoList.of.Given as goal

abbrev pub invariant-loop-proto : goal.invariant-loop-proto
invariant-loop-proto l = l.list ≡ numbers_of (take l.proto-index l.tree)
