-- What packets are decoded by.
use Rattle.std.specs.Prelude.{◌≡◌}
use Rattle.std.specs.Arc.{arc_value}
use Rattle.db_model.specs.declared.database.Database.{Database}
use Rattle.engine.specs.declared.engine.Engine.TheInside.{Inside}
use Rattle.engine.specs.declared.engine.Parts.{Parts}
use Rattle.pdl_code.specs.Does.{IsCodeOf}
use Rattle.psml_out.specs.Summaries.{summaries_of}
use Rattle.show.specs.Labels.{labels_of}

-- the code, the labels and the summaries are those of the database
pub record IsReady (engine : Inside) : Type 0 where
  pub code : IsCodeOf (arc_value engine.db) (arc_value engine.code)
  pub labels : arc_value engine.labels ≡ labels_of (arc_value engine.db)
  pub summaries : arc_value engine.summaries ≡ summaries_of (arc_value engine.db)

-- they are those of this database
pub record HasParts (parts : Parts) (db : Database) : Type 0 where
  pub code : IsCodeOf db (arc_value parts.code)
  pub labels : arc_value parts.labels ≡ labels_of db
  pub summaries : arc_value parts.summaries ≡ summaries_of db
