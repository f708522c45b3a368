use Rattle.std.proofs.Common.{◌++◌, ◌∷◌, [], List, Some, Ok, ap, subst, ◌∙◌}
use Rattle.db_model.specs.declared.question.Question.{Question}
use Rattle.db_model.specs.declared.question.Answer.{Answer}
use Rattle.db_model.specs.Over.{AnswersTo}
use Rattle.op_log.specs.Overlay.{Noting}
use Rattle.op_log.proofs.Looking.{noted_answers}
use Rattle.op_log.proofs.overlay.OverlayAnswers.ask.Goals as goal

pub returns-clause-answer : goal.returns-clause-answer
returns-clause-answer c =
    subst (λ (o : Noting). AnswersTo o.database c.args.t c.args.question.now (Ok c.in_ok-answer.answer) o.content (Some o.log) c.answered_twice.new.session.content (Some c.push_reserved.new.self.items)) c.self.view_is
    (noted_answers c.self.inside.session.database c.args.t c.args.question.now c.in_ok-asked.asked c.self.inside.session.content c.answered_twice.new.session.content c.in_ok-answer.answer c.in_ok-answer.noted c.self.inside.pairs.items c.push_reserved.new.self.items c.in_ok-asked.ensures c.in_ok-answer.ensures.answers
    (c.push_reserved.ensures.items ∙ ap (λ (l : List (Question × Answer)). l ++ (c.in_ok-asked.asked, c.in_ok-answer.noted) ∷ []) c.in_ok-reserve.ensures.items))
