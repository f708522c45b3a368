use Rattle.std.proofs.Common.{[], refl, subst}
use Rattle.engine.specs.declared.texts.Wanted.{Wanted}
use Rattle.engine.specs.Texts.{Hold}
use Rattle.pdml_out.specs.Pdml
use Rattle.psml_out.specs.Psml
use Rattle.pipeline.specs.Outputs.{openings}
use Rattle.pipeline.specs.Taken.{pieces}
use Rattle.pipeline.proofs.Taking.{takes_alike, takes_pieces, fronts_none, wanted_alike}
use Rattle.pipeline.proofs.pipeline.Pipeline.write_openings.Goals as goal

pub returns-in-Ok-clause-takes : goal.returns-in-Ok-clause-takes
returns-in-Ok-clause-takes g c =
    let sinks = c.args.self.now.sinks in
    let texts = c.put_openings.new.texts in
    let r = g.H.Host.outputs c.args.host.now in
    let t = g.H.Host.outputs c.write_texts.new.host in
    let hold = subst (λ (w : Wanted). Hold w texts Pdml.opening (Psml.opening c.args.self.now.engine.now)) c.wanted.ensures c.in-Ok.ensures in
    takes_alike sinks c.write_texts.result r t (pieces texts.pdml.items texts.psml.items []) (openings c.args.self.now.engine.now) (wanted_alike sinks texts (openings c.args.self.now.engine.now) hold refl)
    (takes_pieces sinks c.write_texts.result r t _ _ _ _ _ _ c.deref.ensures.value c.deref-in-Ok.ensures.value refl c.write_texts.ensures.takes)

pub returns-in-Err-clause-takes : goal.returns-in-Err-clause-takes
returns-in-Err-clause-takes g c = fronts_none c.args.self.now.sinks (g.H.Host.outputs c.args.host.now) (openings c.args.self.now.engine.now)
