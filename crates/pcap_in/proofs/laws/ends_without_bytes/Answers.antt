use Rattle.pcap_in.proofs.Ends.{ends_without_bytes}
use Rattle.pcap_in.proofs.laws.ends_without_bytes.Goals as goal

pub returns : goal.returns
returns c = ends_without_bytes
