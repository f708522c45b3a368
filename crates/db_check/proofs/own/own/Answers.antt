use Rattle.std.proofs.Common.{◌∙◌, ap, sym, Some}
use Rattle.db_model.specs.declared.value.Ty.TheVariants.{Num}
use Rattle.db_model.specs.LeastFault.{earlier}
use Rattle.db_model.specs.Lines.{over, at_line}
use Rattle.db_model.specs.NameFaults.{block_names}
use Rattle.db_check.specs.Around.{own_in}
use Rattle.db_check.specs.First.{first}
use Rattle.db_check.specs.Layer.{own_at}
use Rattle.db_check.specs.Own.{cause_of, fails, case_lines}
use Rattle.db_check.proofs.FirstFault.{first_append}
use Rattle.db_check.proofs.FourKinds.{own_switch}
use Rattle.db_check.proofs.own.own.Goals as goal

pub returns-in-Switch : goal.returns-in-Switch
returns-in-Switch c =
    let db = c.args.around.now.scope.database.now in
    let fields = c.args.around.now.scope.fields.now in
    let blocks = block_names c.args.around.now.protocol.now in
    let k = cause_of c.args.kind in
    let cases = case_lines c.args.kind in
    c.earlier.ensures
    ∙ ((λ i. earlier (c.of_number-in-Switch.ensures i) ((c.of_cases.ensures ∙ ap (λ l. first k (over cases l)) c.as_slice.ensures) i))
    ∙ (sym (first_append k (at_line c.in-Switch.line (fails db fields blocks c.args.kind (Some Num) c.in-Switch.expr)) (over cases c.in-Switch.cases))
    ∙ ap (first k) (sym (own_switch db fields blocks c.args.kind c.in-Switch.line c.in-Switch.expr c.in-Switch.cases c.in-Switch.otherwise) ∙ ap (own_at (own_in c.args.around.now c.args.kind)) (sym c.in-Switch.is))))
