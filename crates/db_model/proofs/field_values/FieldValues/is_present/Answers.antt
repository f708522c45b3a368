use Rattle.std.proofs.Common.{◌∙◌, ap, List, get_or, ℕ}
use Rattle.db_model.specs.LastValue.{has_number}
use Rattle.db_model.proofs.LastValue.{tells}
use Rattle.db_model.proofs.field_values.FieldValues.is_present.Goals as goal

pub returns : goal.returns
returns c =
    let s = c.self.inside in
    tells s.values.items s.last.items c.args.number c.kept.result c.self.invariant (c.kept.ensures ∙ ap (λ (l : List ℕ). get_or l c.args.number 0) c.as_slice.ensures.value)
    ∙ ap (has_number c.args.number) c.self.view_is
