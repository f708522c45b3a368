use Rattle.std.proofs.Common.{◌≡◌, Err, rules}
use Rattle.decode_vm.proofs.Fits.{fit_update}
use Rattle.decode_vm.proofs.Updated.{update_failed, update_done, update_ended}
use Rattle.decode_vm.proofs.update.add_entry.Goals as goal

pub added-answer-requires-clause-fit : goal.added-answer-requires-clause-fit
added-answer-requires-clause-fit g c =
    fit_update c.args.program.now.db.now c.args.program.now.code.now c.args.pc c.args.update.now c.args.m.now (g.A.Answers.content c.args.answers.now) (g.A.Answers.told c.args.answers.now) c.requires.mode c.requires.stands c.requires.running

pub returns-in_err-_done-clause-moves : goal.returns-in_err-_done-clause-moves
returns-in_err-_done-clause-moves g c =
    let db = c.args.program.now.db.now in
    let r : c.from_residual.result ≡ Err c.in_err-_done.field-0.0 = search rules in
    update_failed db c.args.program.now.code.now c.args.pc c.args.update.now c.args.m.now c.requires.mode c.requires.stands (g.A.Answers.content c.args.answers.now) (g.A.Answers.told c.args.answers.now) c.added-answer.new.env (g.A.Answers.content c.added-answer.new.answers) (g.A.Answers.told c.added-answer.new.answers) c.added-answer.result c.added-answer.ensures.value c.from_residual.result c.in_err-_done.field-0.0 c.settle.new.m r c.in_err-_done.ensures

pub returns-in-Some-clause-moves : goal.returns-in-Some-clause-moves
returns-in-Some-clause-moves g c =
    let db = c.args.program.now.db.now in
    update_done db c.args.program.now.code.now c.args.pc c.args.update.now c.args.m.now c.requires.mode c.requires.stands (g.A.Answers.content c.args.answers.now) (g.A.Answers.told c.args.answers.now) c.added-answer.new.env (g.A.Answers.content c.added-answer.new.answers) (g.A.Answers.told c.added-answer.new.answers) c.added-answer.result c.added-answer.ensures.value c.in-Some._done c.in_ok-_done.field-0 c.behind.result c.settle.new.m c.in-Some.is c.in_ok-_done.ensures c.behind.ensures

pub returns-in-None-clause-moves : goal.returns-in-None-clause-moves
returns-in-None-clause-moves g c =
    let db = c.args.program.now.db.now in
    update_ended db c.args.program.now.code.now c.args.pc c.args.update.now c.args.m.now c.requires.mode c.requires.stands (g.A.Answers.content c.args.answers.now) (g.A.Answers.told c.args.answers.now) c.added-answer.new.env (g.A.Answers.content c.added-answer.new.answers) (g.A.Answers.told c.added-answer.new.answers) c.added-answer.result c.added-answer.ensures.value c.in_ok-_done.field-0 c.settle.new.m c.in-None.is c.in_ok-_done.ensures
