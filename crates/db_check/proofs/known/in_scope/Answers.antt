use Rattle.std.proofs.Common.{◌∙◌, sym}
use Rattle.db_model.specs.LeastFault.{earlier}
use Rattle.db_model.specs.Lines.{at_line, lines_in}
use Rattle.db_model.specs.NameFaults.{block_names}
use Rattle.db_check.specs.First.{first}
use Rattle.db_check.specs.Known.{summary_fails}
use Rattle.db_check.specs.Own.{cause_of, own_of}
use Rattle.db_check.proofs.FirstFault.{first_append}
use Rattle.db_check.proofs.known.in_scope.Goals as goal

pub returns : goal.returns
returns c =
    let db = c.args.known.now.database.now in
    let p = c.args.protocol.now in
    let k = cause_of c.args.kind in
    let own = at_line p.line (summary_fails db c.args.kind p.showsum) in
    c.earlier.ensures
    ∙ ((λ i. earlier ((c.at_line-own.ensures ∙ (λ j. first (c.cause.ensures j) (at_line p.line (c.summary_fails-wrong.ensures j)))) i) (c.in_protocol.ensures i))
    ∙ sym (first_append k own (lines_in (own_of db c.args.fields.now (block_names p) c.args.kind) p)))
