-- What a host's refusal of a read is to a reader of captures.
use Rattle.npd_host.specs.declared.host.HostFail.{HostFail}
use Rattle.npd_host.specs.declared.host.HostFail.TheVariants as host
use Rattle.pcap_in.specs.declared.fail.CapFail.{CapFail}
use Rattle.pcap_in.specs.declared.fail.CapFail.TheVariants.{ReadFault, NoMemory}

-- the answer to each refusal
abbrev pub cap_fail_of : HostFail → CapFail
cap_fail_of host.Failed = ReadFault
cap_fail_of host.NoMemory = NoMemory
