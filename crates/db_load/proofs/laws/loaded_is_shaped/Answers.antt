use Rattle.db_load.proofs.Shaped.{shaped}
use Rattle.db_load.proofs.laws.loaded_is_shaped.Goals as goal

pub returns : goal.returns
returns c = shaped (λ t e h. c.texts_are_well_formed.ensures t e ((c.parsed_is_text.ensures t e).0 h))
