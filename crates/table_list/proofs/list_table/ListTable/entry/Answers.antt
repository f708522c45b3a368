use Rattle.std.proofs.Common.{◌≡◌, ◌∙◌, ap, sym, Some, slice_get}
use Rattle.table_list.specs.Lists.{part, part_fits, content}
use Rattle.table_list.proofs.Renewals.{fits_there}
use Rattle.table_list.proofs.list_table.ListTable.entry.Goals as goal

pub returns-in_ok-copied-in-Some-clause-fits : goal.returns-in_ok-copied-in-Some-clause-fits
returns-in_ok-copied-in-Some-clause-fits c =
    let t = content c.self.inside.lists in
    let g : slice_get (part c.args.masked t) c.args.at ≡ Some c.in-Some.found.now = sym (c.in-Some.ensures ∙ ap (λ l. slice_get l c.args.at) c.part.ensures) in
    ap (λ s. part_fits c.args.masked s.declaration c.in_ok-copied-in-Some.field-0) (sym c.self.view_is)
    ∙ ap (part_fits c.args.masked c.self.inside.declaration) c.in_ok-copied-in-Some.ensures
    ∙ fits_there c.self.inside.declaration t c.args.masked c.args.at c.in-Some.found.now c.self.invariant.fits g
