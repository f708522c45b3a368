use Rattle.std.proofs.Common.{◌≡◌, ◌<◌, sym, subst, List, length, slice_get, Some}
use Rattle.db_model.specs.declared.limits.TheConstants.{STAMP_END}
use Rattle.db_model.specs.declared.packet.Packet.{Packet}
use Rattle.spec_core.specs.Machine.{Machine}
use Rattle.spec_core.specs.Inside.{machine_of}
use Rattle.spec_core.proofs.Steps.{packet_at}
use Rattle.spec_core.proofs.machine.Core.next_job.Goals as goal

pub of-requires : goal.of-requires
of-requires c =
    let k = c.self.inside in
    let x = packet_at (machine_of k) c.self.invariant.sound k.given (subst (λ (m : Machine). m.given < length m.run.packets) (sym c.self.view_is) c.requires) in
    subst (λ (ps : List Packet). (p : Packet) × (slice_get ps k.given ≡ Some p) × (p.stamp < STAMP_END)) (sym c.in_ok-packets.ensures) x
