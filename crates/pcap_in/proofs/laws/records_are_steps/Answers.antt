use Rattle.pcap_in.proofs.Records.{records_step}
use Rattle.pcap_in.proofs.laws.records_are_steps.Goals as goal

pub returns : goal.returns
returns c = records_step
