use Rattle.op_log.proofs.Looking.{looked_content, looked_answers}
use Rattle.op_log.proofs.overlay.looked_up.Goals as goal

pub returns-in_err-noted-clause-content : goal.returns-in_err-noted-clause-content
returns-in_err-noted-clause-content c = looked_content c.args.session.now.database c.args.t c.args.session.now.content c.ask.new.self.content c.args.table c.args.keys.now c.in_ok-question.question c.in_ok-question.ensures c.in_ok-answer.answer c.in_ok-answer.ensures.answer

pub returns-clause-content : goal.returns-clause-content
returns-clause-content c = looked_content c.args.session.now.database c.args.t c.args.session.now.content c.ask.new.self.content c.args.table c.args.keys.now c.in_ok-question.question c.in_ok-question.ensures c.in_ok-answer.answer c.in_ok-answer.ensures.answer

pub returns-clause-answers : goal.returns-clause-answers
returns-clause-answers c = looked_answers c.args.session.now.database c.args.t c.args.session.now.content c.ask.new.self.content c.args.table c.args.keys.now c.in_ok-question.question c.in_ok-question.ensures c.in_ok-answer.answer c.in_ok-answer.ensures.answer c.in_ok-noted.noted c.in_ok-noted.ensures
