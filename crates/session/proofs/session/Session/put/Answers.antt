use Rattle.std.proofs.Common.{◌≡◌, sym, subst}
use Rattle.db_model.specs.declared.question.Answer.TheVariants.{Done}
use Rattle.db_model.specs.Session.{ask}
use Rattle.session.proofs.Sound.{done}
use Rattle.session.proofs.session.Session.put.Goals as goal

pub returns-in-Add-clause-answer : goal.returns-in-Add-clause-answer
returns-in-Add-clause-answer c =
    let s = c.args.self.now in
    subst (λ q. Done ≡ (ask s.database s.content q c.args.t).0) (sym c.in-Add.is) (done s.database s.content c.in-Add.table c.in-Add.entry c.args.t)
