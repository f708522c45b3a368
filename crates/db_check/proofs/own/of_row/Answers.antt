use Rattle.std.proofs.Common.{◌∙◌}
use Rattle.db_model.specs.Lines.{at_line}
use Rattle.db_model.specs.NameFaults.{block_names}
use Rattle.db_check.specs.First.{first}
use Rattle.db_check.specs.Own.{cause_of, value_lines}
use Rattle.db_check.proofs.FourKinds.{wants_next, wants_end}
use Rattle.db_check.proofs.own.of_row.Goals as goal

pub loop-i-preserved : goal.loop-i-preserved
loop-i-preserved c =
    let db = c.args.around.now.scope.database.now in
    let fields = c.args.around.now.scope.fields.now in
    let blocks = block_names c.args.around.now.protocol.now in
    wants_next (value_lines db fields blocks c.args.kind) (cause_of c.args.kind) c.args.columns.now c.args.row.now c.loop-i.i c.index-row-i.result c.wanted_at.result c.loop-i.found c.at_line.result c.earlier-found.result _ c.loop-i-test.true c.index-row-i.is c.wanted_at.ensures
    (c.at_line.ensures ∙ (λ j. first (c.cause.ensures j) (at_line c.index-row-i.result.line (c.fails-wrong.ensures j))))
    c.earlier-found.ensures c.loop-i.invariant

pub returns : goal.returns
returns c =
    let db = c.args.around.now.scope.database.now in
    let fields = c.args.around.now.scope.fields.now in
    let blocks = block_names c.args.around.now.protocol.now in
    wants_end (value_lines db fields blocks c.args.kind) (cause_of c.args.kind) c.args.columns.now c.args.row.now c.loop-i.i c.loop-i.found _ c.loop-i-test.false c.loop-i.invariant
