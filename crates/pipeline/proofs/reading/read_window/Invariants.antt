use Rattle.std.proofs.Common.{◌≡◌, length, IsTrue}
use Rattle.npd_host.specs.Host.{MovesInputsOnly}
use Rattle.pcap_in.specs.Reader.{is_reading, InReach}
use Rattle.pipeline.specs.Window.{captured_bytes, place, IsLight, Reads}
use Rattle.pipeline.proofs.reading.read_window.Given as goal

abbrev pub invariant-loop-count : goal.invariant-loop-count
invariant-loop-count g l = record {
  reads : Reads l.packets.items (place l.fn.reader (g.H.Host.inputs l.fn.host)) (place l.reader (g.H.Host.inputs l.host));
  counted : length l.packets.items ≡ l._count;
  captured : l.captured ≡ captured_bytes l.packets.items;
  light : IsLight l.packets.items;
  reading : IsTrue (is_reading l.reader.state);
  reach : InReach l.reader (g.H.Host.inputs l.host);
  names : (g.H.Host.inputs l.host).name l.reader.id.0 ≡ (g.H.Host.inputs l.fn.host).name l.fn.reader.id.0;
  frame : MovesInputsOnly g.H.Host.outputs g.H.Host.files g.H.Host.faults l.fn.host l.host;
}
