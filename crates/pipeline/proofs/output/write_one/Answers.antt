use Rattle.engine.specs.Trace.{trace_line}
use Rattle.pipeline.specs.Ready.{ready_text}
use Rattle.pipeline.specs.Taken.{pieces}
use Rattle.pipeline.proofs.Taking.{fronts_none, line_alike, takes_alike, takes_pieces}
use Rattle.pipeline.proofs.output.write_one.Goals as goal

pub returns-in-Ok-clause-takes : goal.returns-in-Ok-clause-takes
returns-in-Ok-clause-takes g c =
    let r = g.H.Host.outputs c.args.host.now in
    let t = g.H.Host.outputs c.write_texts.new.host in
    let pdml = c.args.one.now.texts.pdml.items in
    let psml = c.args.one.now.texts.psml.items in
    let line = c.put_line.new.line.items in
    takes_alike c.args.sinks c.write_texts.result r t (pieces pdml psml line) (ready_text c.args.one.now) (line_alike c.args.sinks pdml psml line (trace_line c.args.one.now.receipt) c.in-Ok.ensures)
    (takes_pieces c.args.sinks c.write_texts.result r t _ _ _ _ _ _ c.deref.ensures.value c.deref-in-Ok.ensures.value c.deref-in-Ok-2.ensures.value c.write_texts.ensures.takes)

pub returns-in-Err-clause-takes : goal.returns-in-Err-clause-takes
returns-in-Err-clause-takes g c = fronts_none c.args.sinks (g.H.Host.outputs c.args.host.now) (ready_text c.args.one.now)
