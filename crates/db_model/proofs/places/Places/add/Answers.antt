use Rattle.std.proofs.Common.{◌≡◌, ◌∙◌, ap, bytes_eq, None, sym}
use Rattle.std.specs.Map.{lookup}
use Rattle.indexmap.proofs.CallerLemmas.{insert_entry-new}
use Rattle.db_model.specs.Names.{Text}
use Rattle.db_model.proofs.Placed.{shown_lookup, shown_added}
use Rattle.db_model.proofs.places.Places.add.Goals as goal

pub returns : goal.returns
returns c =
    let es = c.self.inside.numbers.entries in
    let k = c.in_ok-from_slice.field-0 in
    let fresh = shown_lookup k.items es ∙ ap (lookup (bytes_eq k.items)) c.self.view_is ∙ ap (λ (n : Text). lookup (bytes_eq n) c.args.self.now) c.in_ok-from_slice.ensures.items ∙ c.requires in
    shown_added es c.insert.new.self.entries k c.args.number c.args.self.now c.args.name.now
    (c.in_ok-insert.ensures.entries ∙ insert_entry-new _ c.self.inside.numbers k c.args.number fresh) c.self.view_is c.in_ok-from_slice.ensures.items
