use Rattle.std.proofs.Common.{◌≡◌, ◌++◌, take}
use Rattle.std.specs.List.{flat_map}
use Rattle.pdml_out.specs.Pdml.{proto_text}
use Rattle.pdml_out.proofs.packet.push_protos.Given as goal

abbrev pub invariant-loop-proto : goal.invariant-loop-proto
invariant-loop-proto l = l.text.items ≡ l.fn.text.items ++ flat_map (proto_text l.db) (take l.proto-index l.protos)
