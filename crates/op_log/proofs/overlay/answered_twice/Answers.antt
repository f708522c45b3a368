use Rattle.std.proofs.Common.{Ok, ap, sym, subst, ◌∙◌}
use Rattle.db_model.specs.declared.question.Question.{Question}
use Rattle.db_model.specs.Fitting.{question_fits}
use Rattle.session.specs.State.{State}
use Rattle.op_log.specs.Overlay.{Twice}
use Rattle.op_log.proofs.Looking.{plain_fits, added_twice, plainly_twice, renewed_twice}
use Rattle.op_log.proofs.overlay.answered_twice.Goals as goal
use Rattle.op_log.proofs.overlay.answered_twice.Goals.{then-renew+in_ok-_renewed-in-Look+in-Hit-1, then-renew+in_ok-_renewed-in-Look+in-Miss-1, else-renew}

pub looked_up-requires-clause-fits : goal.looked_up-requires-clause-fits
looked_up-requires-clause-fits c =
    plain_fits c.in-Look.keys c.args.t c.args.session.now.database c.args.session.now.content c.in-Look.table c.in-Look.renew
    (sym (ap (λ (q : Question). question_fits c.args.session.now.database q) c.in-Look.is) ∙ c.requires.fits)

pub returns-in_ok-_done-in-Add-clause-answers : goal.returns-in_ok-_done-in-Add-clause-answers
returns-in_ok-_done-in-Add-clause-answers c = added_twice c.args.session.now.database c.args.t c.args.session.now.content c.ask.new.self.content c.args.question.now c.in-Add.table c.in-Add.entry c.in_ok-_done-in-Add._done c.in-Add.is c.in_ok-_done-in-Add.ensures.answer

pub returns-after-renew-clause-answers : goal.returns-after-renew-clause-answers
returns-after-renew-clause-answers c =
    elim c.if-renew.branch [
      | then-renew+in_ok-_renewed-in-Look+in-Hit-1 w ↦
          subst (λ (x : State). Twice c.args.session.now.database c.args.t c.args.question.now c.args.session.now.content (Ok (c.in_ok-answer-in-Look.answer, c.in_ok-answer-in-Look.noted)) x.content) (sym w.session-is)
          (renewed_twice c.args.session.now.database c.args.t c.args.session.now.content w.ask-then-renew.new.self.content c.args.question.now c.in-Look.table c.in-Look.keys c.in-Look.renew c.in-Look.is (c.in_ok-answer-in-Look.answer, c.in_ok-answer-in-Look.noted) c.in_ok-answer-in-Look.ensures.answers c.looked_up.new.session.database c.looked_up.new.session.content w.in_ok-_renewed-in-Look._renewed c.in_ok-answer-in-Look.ensures.database c.in_ok-answer-in-Look.ensures.content w.in_ok-_renewed-in-Look.ensures.answer)
      | then-renew+in_ok-_renewed-in-Look+in-Miss-1 w ↦
          subst (λ (x : State). Twice c.args.session.now.database c.args.t c.args.question.now c.args.session.now.content (Ok (c.in_ok-answer-in-Look.answer, c.in_ok-answer-in-Look.noted)) x.content) (sym w.session-is)
          (renewed_twice c.args.session.now.database c.args.t c.args.session.now.content w.ask-then-renew.new.self.content c.args.question.now c.in-Look.table c.in-Look.keys c.in-Look.renew c.in-Look.is (c.in_ok-answer-in-Look.answer, c.in_ok-answer-in-Look.noted) c.in_ok-answer-in-Look.ensures.answers c.looked_up.new.session.database c.looked_up.new.session.content w.in_ok-_renewed-in-Look._renewed c.in_ok-answer-in-Look.ensures.database c.in_ok-answer-in-Look.ensures.content w.in_ok-_renewed-in-Look.ensures.answer)
      | else-renew w ↦
          subst (λ (x : State). Twice c.args.session.now.database c.args.t c.args.question.now c.args.session.now.content (Ok (c.in_ok-answer-in-Look.answer, c.in_ok-answer-in-Look.noted)) x.content) (sym w.session-is)
          (plainly_twice c.args.session.now.database c.args.t c.args.session.now.content c.looked_up.new.session.content c.args.question.now c.in-Look.table c.in-Look.keys c.in-Look.renew c.in-Look.is (c.in_ok-answer-in-Look.answer, c.in_ok-answer-in-Look.noted) c.in_ok-answer-in-Look.ensures.answers w.if-renew.false c.in_ok-answer-in-Look.ensures.content)
    ]
