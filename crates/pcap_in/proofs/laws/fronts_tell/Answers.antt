use Rattle.pcap_in.proofs.Fronts.{header_is_front, record_is_front, record_is_numbered, part_has_none}
use Rattle.pcap_in.proofs.laws.fronts_tell.Goals as goal

pub returns-clause-header : goal.returns-clause-header
returns-clause-header c = header_is_front

pub returns-clause-one : goal.returns-clause-one
returns-clause-one c = record_is_front

pub returns-clause-number : goal.returns-clause-number
returns-clause-number c = record_is_numbered

pub returns-clause-part : goal.returns-clause-part
returns-clause-part c = part_has_none
