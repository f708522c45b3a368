use Rattle.pipeline.specs.Window.{place}
use Rattle.pipeline.proofs.Windows.{reads_one}
use Rattle.pipeline.proofs.reading.read_one.Goals as goal

pub returns-in_ok-put-in-Ok-Packet-clause-reads : goal.returns-in_ok-put-in-Ok-Packet-clause-reads
returns-in_ok-put-in-Ok-Packet-clause-reads g c =
    let H = g.H.Host in
    let a = place c.args.reader.now (H.inputs c.args.host.now) in
    let b = place c.next_packet.new.reader (H.inputs c.next_packet.new.host) in
    let is = c.in-Ok-Packet.field-0-is in
    let next = c.in-Ok-Packet.ensures in
    let fronts = c.fronts_tell.ensures in
    let read = rw is at next.takes in
    let moved = rw is at next.behind in
    let sees = rw is at next.follows in
    let stamp = rw is at next.stamp in
    (c.in-Ok-Packet.packet, c.in_ok-put-in-Ok-Packet.ensures.put, reads_one fronts.one fronts.number c.in-Ok-Packet.packet a b read moved sees stamp c.requires.number)
