use Rattle.std.proofs.Common.{◌≡◌, subst, List, IfOk}
use Rattle.db_model.specs.Names.{Text}
use Rattle.db_model.specs.Numbering.{names_of_protocol}
use Rattle.expr_code.specs.Code.{code_of}
use Rattle.expr_code.proofs.Means.{if_means}
use Rattle.expr_code.proofs.resolve.code_of.Goals as goal

pub returns-clause-code : goal.returns-clause-code
returns-clause-code c = subst (λ (l : List Text). IfOk c.resolved.result (λ x. x ≡ code_of c.args.db.now l c.args.e.now)) c.field_names.ensures c.resolved.ensures

pub returns-clause-means : goal.returns-clause-means
returns-clause-means c =
    let db = c.args.db.now in
    if_means db (names_of_protocol db c.args.protocol) c.args.e.now c.resolved.result
    (subst (λ (l : List Text). IfOk c.resolved.result (λ x. x ≡ code_of db l c.args.e.now)) c.field_names.ensures c.resolved.ensures)
