use Rattle.std.proofs.Common.{ℕ, List, Ok, sym, subst}
use Rattle.db_model.specs.declared.database.Database as model
use Rattle.db_check.specs.Answer.{Judges}
use Rattle.db_load.specs.Answer.{Answers}
use Rattle.npd_top.specs.Accepted.{IsAccepted}
use Rattle.npd_top.proofs.load.accepted.Goals as goal

-- a database that was loaded, and in which no fault was found
accepted_of : (text : List ℕ) (db checked : model.Database) → Answers text (Ok db) → Judges db (Ok checked) → IsAccepted text checked
accepted_of text db checked loaded (sound, same) = subst (λ (d : model.Database). IsAccepted text d) (sym same) (record { loaded = loaded; accepted = sound })

pub returns-in-Ok-check-clause-database : goal.returns-in-Ok-check-clause-database
returns-in-Ok-check-clause-database c = accepted_of c.args.text.now c.in-Ok.db c.in-Ok-check.db c.in-Ok.ensures.answer c.in-Ok-check.ensures
