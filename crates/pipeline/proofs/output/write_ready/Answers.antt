use Rattle.std.proofs.Common.{◌∙◌, arith}
use Rattle.std.proofs.lemmas.Result.{err_from_is_err_and}
use Rattle.pipeline.proofs.Taking.{ready_failed, ready_took}
use Rattle.pipeline.proofs.output.write_ready.Goals as goal

pub returns-in_err-write_one-clause-takes : goal.returns-in_err-write_one-clause-takes
returns-in_err-write_one-clause-takes g c =
    let p = err_from_is_err_and c.from_residual.result c.from_residual.ensures.1 in
    let l = c.loop-one in
    rw (p.1, p.2)
    (ready_failed c.args.sinks c.args.ready.now l.one-index c.one-item.result c.loop-one-test.true c.one-item.is (g.H.Host.outputs c.args.host.now) (g.H.Host.outputs l.host) (g.H.Host.outputs c.write_one.new.host) l.invariant.took
    c.in_err-write_one.field-0.0 c.in_err-write_one.ensures.takes)

pub loop-one-preserved : goal.loop-one-preserved
loop-one-preserved g c =
    let l = c.loop-one in
    let wrote = c.in_ok-write_one.ensures in
    record {
      took = ready_took c.args.sinks c.args.ready.now l.one-index c.one-item.result c.loop-one-test.true c.one-item.is (g.H.Host.outputs c.args.host.now) (g.H.Host.outputs l.host) (g.H.Host.outputs c.write_one.new.host) l.invariant.took wrote.takes;
      names = wrote.takes.names ∙ l.invariant.names;
      frame = record {
        inputs = wrote.frame.inputs ∙ l.invariant.frame.inputs;
        files = wrote.frame.files ∙ l.invariant.frame.files;
        later = λ kind name. omega (arith, wrote.frame.later kind name, l.invariant.frame.later kind name);
      };
    }
