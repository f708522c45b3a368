use Rattle.std.proofs.Common.{ap, ◌∙◌}
use Rattle.npd_host.specs.Host.{Inputs, Outputs}
use Rattle.npd_top.specs.Outside.{seen}
use Rattle.npd_top.proofs.Checks.{finds_accepted, says_line, opens_line}
use Rattle.npd_top.proofs.run.run_check.Goals as goal
use Rattle.npd_top.specs.Line.{standard, Wrote}

pub returns-in-Ok-write_line-clause-says : goal.returns-in-Ok-write_line-clause-says
returns-in-Ok-write_line-clause-says g c =
    let files = c.args.files.now in
    let before = seen g.H.Host c.args.host.now in
    let after = seen g.H.Host c.write_line.new.host in
    let database = rw c.as_str.ensures at c.in-Ok.ensures.database in
    let written = rw (c.as_slice.ensures.value, c.in-Ok-totals_line.ensures, c.in-Ok.ensures.frame.outputs) at c.in-Ok-write_line.ensures.writes in
    finds_accepted files before c.in-Ok.totals (Wrote before.outputs after.outputs standard) database written

pub returns-clause-says : goal.returns-clause-says
returns-clause-says g c =
    let files = c.args.files.now in
    let before = seen g.H.Host c.args.host.now in
    let after = seen g.H.Host c.write_line.new.host in
    let database = rw c.as_str.ensures at c.in-Ok.ensures.database in
    let written = rw (c.as_slice.ensures.value, c.in-Ok-totals_line.ensures, c.in-Ok.ensures.frame.outputs) at c.in-Err-write_line.ensures.writes in
    says_line c.in-Err-write_line.status files before after c.in-Ok.totals database written

pub returns-clause-opens : goal.returns-clause-opens
returns-clause-opens g c =
    let files = c.args.files.now in
    let before = seen g.H.Host c.args.host.now in
    let after = seen g.H.Host c.write_line.new.host in
    let read = rw c.as_str.ensures at c.in-Ok.ensures.opens in
    let wrote = rw c.in-Ok.ensures.frame.outputs at c.in-Err-write_line.ensures.writes in
    opens_line c.in-Err-write_line.status files before after _ _ (ap (λ (o : Outputs). o.opened) c.in-Ok.ensures.frame.outputs) wrote (ap (λ (i : Inputs). i.opened) c.in-Err-write_line.ensures.frame.inputs ∙ read) c.in-Err-write_line.ensures.opens
