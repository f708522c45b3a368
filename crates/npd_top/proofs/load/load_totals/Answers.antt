use Rattle.std.proofs.Common.{ap, ◌∙◌}
use Rattle.db_model.specs.declared.database.Database as model
use Rattle.npd_top.specs.CheckRun.{totals_of}
use Rattle.npd_top.proofs.Checks.{counted}
use Rattle.npd_top.proofs.load.load_totals.Goals as goal

pub returns-clause-database : goal.returns-clause-database
returns-clause-database g c =
    counted _ c.in-Ok.db c.totals_of-totals.result (c.totals_of-totals.ensures ∙ ap (λ (db : model.Database). totals_of db) c.database.ensures.database) c.in-Ok.ensures.database
