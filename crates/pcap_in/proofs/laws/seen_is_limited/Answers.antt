use Rattle.pcap_in.proofs.Limited.{limited_is_read, seen_is_limited}
use Rattle.pcap_in.proofs.laws.seen_is_limited.Goals as goal

pub returns-clause-seen : goal.returns-clause-seen
returns-clause-seen c = seen_is_limited

pub returns-clause-read : goal.returns-clause-read
returns-clause-read c = limited_is_read
