use Rattle.std.proofs.lemmas.Result.{err_from_is_err_and}
use Rattle.std.proofs.Common.{None}
use Rattle.pipeline.specs.declared.status.Role.TheVariants.{Pdml, Psml, Trace}
use Rattle.pipeline.proofs.Begun.{none_begun, pdml_begun, psml_begun, trace_begun, open_failed}
use Rattle.pipeline.proofs.sinks.open_outputs.Goals as goal

pub returns-in_err-pdml-clause-opens : goal.returns-in_err-pdml-clause-opens
returns-in_err-pdml-clause-opens g c =
    let p = err_from_is_err_and c.from_residual.result c.from_residual.ensures.1 in
    let files = c.args.files.now in
    let r = g.H.Host.outputs c.args.host.now in
    rw (p.1, p.2)
    (open_failed c.in_err-pdml.field-0.0 Pdml files (record { pdml = None; psml = None; trace = None }) r r (g.H.Host.outputs c.open_named.new.host) (none_begun files r) c.in_err-pdml.ensures.opens)

pub returns-in_err-psml-clause-opens : goal.returns-in_err-psml-clause-opens
returns-in_err-psml-clause-opens g c =
    let p = err_from_is_err_and c.from_residual-in_err-psml.result c.from_residual-in_err-psml.ensures.1 in
    let files = c.args.files.now in
    let r = g.H.Host.outputs c.args.host.now in
    let s = g.H.Host.outputs c.open_named.new.host in
    let begun = pdml_begun files c.in_ok-pdml.pdml r r s (none_begun files r) c.in_ok-pdml.ensures.opens in
    rw (p.1, p.2)
    (open_failed c.in_err-psml.field-0.0 Psml files (record { pdml = c.in_ok-pdml.pdml; psml = None; trace = None }) r s (g.H.Host.outputs c.open_named-2.new.host) begun c.in_err-psml.ensures.opens)

pub returns-in_err-trace-clause-opens : goal.returns-in_err-trace-clause-opens
returns-in_err-trace-clause-opens g c =
    let p = err_from_is_err_and c.from_residual-in_err-trace.result c.from_residual-in_err-trace.ensures.1 in
    let files = c.args.files.now in
    let r = g.H.Host.outputs c.args.host.now in
    let s = g.H.Host.outputs c.open_named.new.host in
    let t = g.H.Host.outputs c.open_named-2.new.host in
    let begun = pdml_begun files c.in_ok-pdml.pdml r r s (none_begun files r) c.in_ok-pdml.ensures.opens in
    let both = psml_begun files c.in_ok-pdml.pdml c.in_ok-psml.psml r s t begun c.in_ok-psml.ensures.opens in
    rw (p.1, p.2)
    (open_failed c.in_err-trace.field-0.0 Trace files (record { pdml = c.in_ok-pdml.pdml; psml = c.in_ok-psml.psml; trace = None }) r t (g.H.Host.outputs c.open_named-3.new.host) both c.in_err-trace.ensures.opens)

pub returns-clause-opens : goal.returns-clause-opens
returns-clause-opens g c =
    let files = c.args.files.now in
    let r = g.H.Host.outputs c.args.host.now in
    let s = g.H.Host.outputs c.open_named.new.host in
    let t = g.H.Host.outputs c.open_named-2.new.host in
    let begun = pdml_begun files c.in_ok-pdml.pdml r r s (none_begun files r) c.in_ok-pdml.ensures.opens in
    let both = psml_begun files c.in_ok-pdml.pdml c.in_ok-psml.psml r s t begun c.in_ok-psml.ensures.opens in
    trace_begun files c.in_ok-pdml.pdml c.in_ok-psml.psml c.in_ok-trace.trace r t (g.H.Host.outputs c.open_named-3.new.host) both c.in_ok-trace.ensures.opens
