use Rattle.std.proofs.Common.{refl, arith}
use Rattle.std.proofs.lemmas.Result.{err_from_is_err_and}
use Rattle.pcap_in.proofs.Headers.{Begins-fail, Begins-form, reach-begin}
use Rattle.pcap_in.proofs.Reading.{whole-buffer}
use Rattle.pcap_in.proofs.reader.CapReader.begin.Goals as goal

pub returns-in_err-form-clause-begins : goal.returns-in_err-form-clause-begins
returns-in_err-form-clause-begins g c =
    let p = err_from_is_err_and c.from_residual-in_err-form.result c.from_residual-in_err-form.ensures.1 in
    let head = c.fill.new.buf in
    let gave = rw (whole-buffer _ c.in_ok-found.found head refl (omega arith)) at c.in_ok-found.ensures.gave in
    rw (p.1, p.2) (Begins-fail c.in_err-form.field-0.0 _ _ head _ gave.front (omega arith) c.in_err-form.ensures)

pub returns-clause-begins : goal.returns-clause-begins
returns-clause-begins g c =
    let head = c.fill.new.buf in
    let gave = rw (whole-buffer _ c.in_ok-found.found head refl (omega arith)) at c.in_ok-found.ensures.gave in
    Begins-form c.in_ok-form.form _ _ head gave.front (omega arith) c.in_ok-form.ensures

pub returns-clause-reach : goal.returns-clause-reach
returns-clause-reach g c =
    let head = c.fill.new.buf in
    let gave = rw (whole-buffer _ c.in_ok-found.found head refl (omega arith)) at c.in_ok-found.ensures.gave in
    reach-begin _ _ head gave.front (omega arith) (g.met.H.Host.bounded c.args.host.now c.args.id.0)
