use Rattle.std.proofs.Common.{take, arith}
use Rattle.pcap_in.proofs.Reading.{head-kept, head-length}
use Rattle.pcap_in.proofs.record.read_head.Goals as goal

pub returns-clause-inputs : goal.returns-clause-inputs
returns-clause-inputs g c =
    let read = c.fill-2.new.buf in
    let found = c.in_ok-found.found in
    let long = head-length c.in-Some.byte c.args.head.now read c.fill-2.auto.buf c.requires.room in
    rw c.in-Some.is (record {
      bytes = take found read;
      gave = c.in_ok-found.ensures.gave;
      taken = (let within = c.in_ok-found.ensures.bound in omega arith, head-kept c.in-Some.byte _ found c.args.head.now read c.requires.room c.in_ok-found.ensures.bound, λ short. c.in_ok-found.ensures.end (omega arith));
    })
