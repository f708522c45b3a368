use Rattle.std.proofs.Common.{ap, List, ℕ, Err, subst}
use Rattle.db_model.specs.declared.database.Database.{Database}
use Rattle.npd_host.specs.Host.{Outputs}
use Rattle.npd_top.specs.Outside.{seen}
use Rattle.npd_top.proofs.Captures.{cause_captured, opens_captured, says_captured}
use Rattle.npd_top.proofs.Causes.{cause_unloaded, opens_unloaded}
use Rattle.npd_top.proofs.Runs.{Rests, says_unloaded}
use Rattle.npd_top.proofs.run.run_decode.Goals as goal
use Rattle.pipeline.specs.Opened.{OpensOne}

pub returns-in-Err-clause-opens : goal.returns-in-Err-clause-opens
returns-in-Err-clause-opens g c =
    let before = seen g.H.Host c.args.host.now in
    let after = seen g.H.Host c.load_engine.new.host in
    opens_unloaded Database c.in-Err.status c.args.files.now before after (subst (λ (n : List ℕ). OpensOne {A = Database} n before.inputs.opened after.inputs.opened (Err c.in-Err.status)) c.as_str.ensures c.in-Err.ensures.opens) (ap (λ (o : Outputs). o.opened) c.in-Err.ensures.frame.outputs) (rw c.as_str.ensures at c.in-Err.ensures.cause)

pub returns-in-Err-clause-says : goal.returns-in-Err-clause-says
returns-in-Err-clause-says g c =
    let before = seen g.H.Host c.args.host.now in
    let after = seen g.H.Host c.load_engine.new.host in
    says_unloaded c.in-Err.status c.args.files.now before after (rw c.as_str.ensures at c.in-Err.ensures.database) c.in-Err.ensures.frame.outputs (rw c.as_str.ensures at c.in-Err.ensures.cause)

pub returns-in-Err-clause-cause : goal.returns-in-Err-clause-cause
returns-in-Err-clause-cause g c =
    let before = seen g.H.Host c.args.host.now in
    let after = seen g.H.Host c.load_engine.new.host in
    cause_unloaded c.args.files.now c.in-Err.status before.faults before.faults after.faults (rw c.as_str.ensures at c.in-Err.ensures.cause)

pub returns-clause-opens : goal.returns-clause-opens
returns-clause-opens g c =
    let before = seen g.H.Host c.args.host.now in
    let mid = seen g.H.Host c.load_engine.new.host in
    let after = seen g.H.Host c.decode_capture-status.new.host in
    opens_captured c.decode_capture-status.result c.args.files.now c.in-Ok.engine before mid after c.in-Ok.ensures.frame.outputs c.decode_capture-status.ensures.runs (rw c.as_str.ensures at c.in-Ok.ensures.opens)

pub returns-clause-says : goal.returns-clause-says
returns-clause-says g c =
    let before = seen g.H.Host c.args.host.now in
    let mid = seen g.H.Host c.load_engine.new.host in
    let after = seen g.H.Host c.decode_capture-status.new.host in
    let rests : Rests = record { seen = c.seen_is_limited.ensures.seen; header = c.fronts_tell.ensures.header } in
    says_captured c.decode_capture-status.result c.args.files.now c.in-Ok.engine before mid after c.in-Ok.ensures.frame.outputs c.decode_capture-status.ensures.runs rests c.requires.0 (rw c.as_str.ensures at c.in-Ok.ensures.database) c.in-Ok.ensures.keeps c.in-Ok.ensures.frame.files

pub returns-clause-cause : goal.returns-clause-cause
returns-clause-cause g c =
    let before = seen g.H.Host c.args.host.now in
    let mid = seen g.H.Host c.load_engine.new.host in
    let after = seen g.H.Host c.decode_capture-status.new.host in
    cause_captured c.decode_capture-status.result c.args.files.now c.in-Ok.engine before mid after c.in-Ok.ensures.frame.outputs c.decode_capture-status.ensures.runs c.in-Ok.ensures.frame.later
