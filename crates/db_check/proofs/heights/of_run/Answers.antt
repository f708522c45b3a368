use Rattle.std.proofs.Common.{◌∙◌, max, ap, sym}
use Rattle.db_model.specs.NameFaults.{block_names}
use Rattle.db_check.specs.Heights.{height_at, height_in}
use Rattle.db_check.proofs.Nesting.{run_height}
use Rattle.db_check.proofs.heights.of_run.Goals as goal

pub returns : goal.returns
returns c =
    let p = c.args.home.now.protocol.now in
    let I = height_at (block_names p) c.args.heights.now in
    c.taller-3.ensures
    ∙ ((λ i. max ((c.of_list-before.ensures ∙ ap (height_in I) c.before-2.ensures) i)
    ((c.taller-2.ensures ∙ (λ i. max ((c.of_list-fields.ensures ∙ ap (height_in I) c.fields.ensures) i)
    ((c.taller.ensures ∙ (λ i. max ((c.of_list-after.ensures ∙ ap (height_in I) c.after.ensures) i) ((c.of_list-next.ensures ∙ ap (height_in I) c.encapsulation.ensures) i))) i))) i))
    ∙ sym (run_height I p))
