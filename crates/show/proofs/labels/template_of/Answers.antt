use Rattle.std.proofs.Common.{sym, ap, ◌∙◌}
use Rattle.std.specs.Prelude.{slice_get}
use Rattle.std.specs.Option.{option_copied}
use Rattle.db_model.specs.declared.database.Database.{Database}
use Rattle.show.proofs.Showable.{is_showable}
use Rattle.show.proofs.labels.template_of.Goals as goal

pub returns-in-Some-template-clause-showable : goal.returns-in-Some-template-clause-showable
returns-in-Some-template-clause-showable c =
    let place = c.in-Some-template.place in
    let found = c.get.ensures.value ∙ ap (λ (db : Database). slice_get db.show_templates place) c.database.ensures.database in
    is_showable c.args.db.now place (option_copied c.get.result) c.database.ensures.checked (sym found)
