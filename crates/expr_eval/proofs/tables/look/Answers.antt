use Rattle.std.proofs.Common.{◌≡◌, true, sym, subst}
use Rattle.db_model.specs.declared.database.Database.{Database}
use Rattle.db_model.specs.declared.question.Question.TheVariants.{Look}
use Rattle.db_model.specs.Fitting.{question_fits}
use Rattle.expr_eval.proofs.tables.look.Goals as goal

pub ask-requires-clause-fits : goal.ask-requires-clause-fits
ask-requires-clause-fits g c = subst (λ (d : Database). question_fits d (Look c.args.table c.args.keys c.args.renew) ≡ true) (sym c.requires.database) c.requires.fits
