use Rattle.std.proofs.Common.{sym, ◌∙◌}
use Rattle.pipeline.proofs.Taking.{one_took, piece_refused}
use Rattle.pipeline.proofs.output.write_piece.Goals as goal

pub returns-in-Ok-clause-takes : goal.returns-in-Ok-clause-takes
returns-in-Ok-clause-takes g c =
    let H = g.H.Host in
    let bytes = c.args.bytes.now in
    one_took c.args.sinks c.requires.apart c.in-Some.id (H.outputs c.args.host.now) (H.outputs c.write_all.new.host) c.args.role (λ r. bytes) (sym c.of.ensures ∙ c.in-Some.is) c.in-Ok.ensures.took

pub returns-in-Err-clause-takes : goal.returns-in-Err-clause-takes
returns-in-Err-clause-takes g c =
    let H = g.H.Host in
    let bytes = c.args.bytes.now in
    rw c.refused.ensures
    (piece_refused c.args.sinks c.requires.apart c.in-Some.id (H.outputs c.args.host.now) (H.outputs c.write_all.new.host) c.in-Err.fail c.args.role (λ r. bytes) (sym c.of.ensures ∙ c.in-Some.is) c.in-Err.ensures.part)
