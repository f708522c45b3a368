use Rattle.std.proofs.Common.{ap}
use Rattle.npd_host.specs.declared.host.InId.{InId}
use Rattle.pipeline.proofs.Opening.{opened}
use Rattle.pipeline.proofs.capture.open_capture.Goals as goal

pub returns-in-Ok-begin-clause-capture : goal.returns-in-Ok-begin-clause-capture
returns-in-Ok-begin-clause-capture g c =
    let H = g.H.Host in
    let begun = c.in-Ok-begin.ensures in
    opened c.args.name.now (H.files c.args.host.now c.args.name.now) (H.inputs c.args.host.now) (H.inputs c.open_in.new.self) (H.inputs c.begin.new.host) c.in-Ok.id.0 c.in-Ok-begin.reader
    c.in-Ok.ensures.given (ap (λ (i : InId). i.0) begun.id) begun.inputs begun.begins begun.number begun.kept begun.reading begun.usable begun.reach
