use Rattle.std.proofs.Common.{◌++◌}
use Rattle.std.proofs.lemmas.Result.{err_from_is_err_and}
use Rattle.pipeline.specs.declared.status.Role.TheVariants.{Pdml, Psml, Trace}
use Rattle.pipeline.specs.Outputs.{no_texts}
use Rattle.pipeline.specs.Taken.{only, pieces}
use Rattle.pipeline.proofs.Taking.{each_none, each_then, fails_then, takes_last, all_pieces, last_piece}
use Rattle.pipeline.proofs.output.write_texts.Goals as goal

pub returns-in_err-write_piece-clause-takes : goal.returns-in_err-write_piece-clause-takes
returns-in_err-write_piece-clause-takes g c =
    let p = err_from_is_err_and c.from_residual.result c.from_residual.ensures.1 in
    let pdml = c.args.pdml.now in
    let psml = c.args.psml.now in
    let trace = c.args.trace.now in
    let r = g.H.Host.outputs c.args.host.now in
    rw (p.1, p.2)
    (fails_then c.args.sinks c.in_err-write_piece.field-0.0 r r (g.H.Host.outputs c.write_piece.new.host) no_texts (only Pdml (λ r. pdml)) (λ role. only Psml (λ r. psml) role ++ only Trace (λ r. trace) role) (pieces pdml psml trace)
    (each_none c.args.sinks r) c.in_err-write_piece.ensures.takes (all_pieces pdml psml trace))

pub returns-in_err-write_piece-2-clause-takes : goal.returns-in_err-write_piece-2-clause-takes
returns-in_err-write_piece-2-clause-takes g c =
    let p = err_from_is_err_and c.from_residual-in_err-write_piece-2.result c.from_residual-in_err-write_piece-2.ensures.1 in
    let pdml = c.args.pdml.now in
    let psml = c.args.psml.now in
    let trace = c.args.trace.now in
    rw (p.1, p.2)
    (fails_then c.args.sinks c.in_err-write_piece-2.field-0.0 (g.H.Host.outputs c.args.host.now) (g.H.Host.outputs c.write_piece.new.host) (g.H.Host.outputs c.write_piece-2.new.host) (only Pdml (λ r. pdml)) (only Psml (λ r. psml)) (only Trace (λ r. trace)) (pieces pdml psml trace)
    c.in_ok-write_piece.ensures.takes c.in_err-write_piece-2.ensures.takes (all_pieces pdml psml trace))

pub returns-clause-takes : goal.returns-clause-takes
returns-clause-takes g c =
    let pdml = c.args.pdml.now in
    let psml = c.args.psml.now in
    let trace = c.args.trace.now in
    let r = g.H.Host.outputs c.args.host.now in
    let s = g.H.Host.outputs c.write_piece.new.host in
    let t = g.H.Host.outputs c.write_piece-2.new.host in
    takes_last c.args.sinks c.write_piece-3.result r t (g.H.Host.outputs c.write_piece-3.new.host) (λ role. only Pdml (λ r. pdml) role ++ only Psml (λ r. psml) role) (only Trace (λ r. trace)) (pieces pdml psml trace)
    (each_then c.args.sinks r s t (only Pdml (λ r. pdml)) (only Psml (λ r. psml)) c.in_ok-write_piece.ensures.takes c.in_ok-write_piece-2.ensures.takes) c.write_piece-3.ensures.takes (last_piece pdml psml trace)
