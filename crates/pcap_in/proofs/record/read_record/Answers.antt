use Rattle.std.proofs.Common.{◌++◌, option_to_list, arith, ◌∙◌, sym}
use Rattle.std.proofs.lemmas.Result.{err_from_is_err_and}
use Rattle.npd_host.proofs.Transfers.{gave_then}
use Rattle.pcap_in.proofs.Reading.{FrontIs-ahead, head-then, whole-buffer, captured-slice, Finds-packet, Finds-cut_bytes, TakesRecord-packet, TakesRecord-cut_bytes}
use Rattle.pcap_in.proofs.record.read_record.Goals as goal

pub returns-in_err-bytes-clause-inputs : goal.returns-in_err-bytes-clause-inputs
returns-in_err-bytes-clause-inputs g c =
    let p = err_from_is_err_and c.from_residual-in_err-bytes.result c.from_residual-in_err-bytes.ensures.1 in
    let head = c.read_head.new.head in
    let first = c.in_ok-found.ensures.inputs in
    let read = c.in_err-bytes.ensures.inputs in
    let kept = option_to_list c.args.kept in
    let head_is = whole-buffer (kept ++ first.bytes) c.in_ok-found.found head first.taken.1 (omega arith) in
    let captured_is = sym (captured-slice c.args.form head (omega arith)) ∙ sym c.number32-captured.ensures in
    rw (p.1, p.2) (record {
      bytes = first.bytes ++ read.bytes;
      gave = gave_then _ _ _ _ _ _ first.gave read.gave;
      taken = rw (head-then kept first.bytes head read.bytes head_is) (TakesRecord-cut_bytes c.in_err-bytes.field-0.0 c.args.form c.args.number c.number32-captured.result _ head read.bytes (omega arith) captured_is read.taken);
    })

pub returns-in-Some-clause-finds : goal.returns-in-Some-clause-finds
returns-in-Some-clause-finds g c =
    let head = c.read_head.new.head in
    let first = c.in_ok-found.ensures.inputs in
    let read = c.in_ok-bytes.ensures.inputs in
    let kept = option_to_list c.args.kept in
    let head_is = whole-buffer (kept ++ first.bytes) c.in_ok-found.found head first.taken.1 (omega arith) in
    let e = c.in-Some.is in
    let taken = rw e at read.taken in
    let captured_is = sym (captured-slice c.args.form head (omega arith)) ∙ sym c.number32-captured.ensures ∙ sym taken.1 in
    let gave = gave_then _ _ _ _ _ _ first.gave read.gave in
    let front = rw (head-then kept first.bytes head read.bytes head_is) at (FrontIs-ahead kept _ _ _ gave.front) in
    Finds-packet _ _ c.args.form c.args.number head c.in-Some.bytes c.packet.result (rw taken.0 at front) (omega arith) captured_is (omega arith) c.packet.ensures.packet

pub returns-in-Some-clause-inputs : goal.returns-in-Some-clause-inputs
returns-in-Some-clause-inputs g c =
    let head = c.read_head.new.head in
    let first = c.in_ok-found.ensures.inputs in
    let read = c.in_ok-bytes.ensures.inputs in
    let kept = option_to_list c.args.kept in
    let head_is = whole-buffer (kept ++ first.bytes) c.in_ok-found.found head first.taken.1 (omega arith) in
    let e = c.in-Some.is in
    let taken = rw e at read.taken in
    let captured_is = sym (captured-slice c.args.form head (omega arith)) ∙ sym c.number32-captured.ensures ∙ sym taken.1 in
    record {
      bytes = first.bytes ++ read.bytes;
      gave = gave_then _ _ _ _ _ _ first.gave read.gave;
      taken = rw (head-then kept first.bytes head read.bytes head_is, taken.0) (TakesRecord-packet c.args.form c.args.number head c.in-Some.bytes c.packet.result (omega arith) captured_is (omega arith) c.packet.ensures.packet);
    }

pub returns-in-None-clause-finds : goal.returns-in-None-clause-finds
returns-in-None-clause-finds g c =
    let head = c.read_head.new.head in
    let first = c.in_ok-found.ensures.inputs in
    let read = c.in_ok-bytes.ensures.inputs in
    let kept = option_to_list c.args.kept in
    let head_is = whole-buffer (kept ++ first.bytes) c.in_ok-found.found head first.taken.1 (omega arith) in
    let e = c.in-None.is in
    let taken = rw e at read.taken in
    let captured_is = sym (captured-slice c.args.form head (omega arith)) ∙ sym c.number32-captured.ensures in
    let gave = gave_then _ _ _ _ _ _ first.gave read.gave in
    let front = rw (head-then kept first.bytes head read.bytes head_is) at (FrontIs-ahead kept _ _ _ gave.front) in
    Finds-cut_bytes _ _ c.args.form c.args.number head read.bytes front (omega arith) (omega arith) (omega arith) taken.1

pub returns-in-None-clause-inputs : goal.returns-in-None-clause-inputs
returns-in-None-clause-inputs g c =
    let first = c.in_ok-found.ensures.inputs in
    let read = c.in_ok-bytes.ensures.inputs in
    record {
      bytes = first.bytes ++ read.bytes;
      gave = gave_then _ _ _ _ _ _ first.gave read.gave;
      taken = tt;
    }
