use Rattle.std.proofs.Common.{◌∙◌, ap, bytes_eq}
use Rattle.std.specs.Map.{lookup}
use Rattle.db_model.proofs.Placed.{shown_lookup}
use Rattle.db_model.proofs.places.Places.number_of.Goals as goal

pub returns : goal.returns
returns c = c.copied.ensures ∙ c.get.ensures.value ∙ shown_lookup c.args.name.now c.self.inside.numbers.entries ∙ ap (lookup (bytes_eq c.args.name.now)) c.self.view_is
