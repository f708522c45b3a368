use Rattle.std.proofs.Common.{◌≡◌, Err, rules}
use Rattle.decode_vm.proofs.Stepping.{step_refused, step_closed}
use Rattle.decode_vm.proofs.list.step.Goals as goal

pub returns-in_err-act-in-At-clause-steps : goal.returns-in_err-act-in-At-clause-steps
returns-in_err-act-in-At-clause-steps g c =
    let r : c.from_residual.result ≡ Err c.in_err-act-in-At.field-0.0 = search rules in
    step_refused c.args.program.now.db.now c.args.program.now.code.now c.args.m.now (g.A.Answers.content c.args.answers.now) (g.A.Answers.told c.args.answers.now) c.from_residual.result c.in_err-act-in-At.field-0.0 c.act.new.m (g.A.Answers.content c.act.new.answers) (g.A.Answers.told c.act.new.answers) r c.in_err-act-in-At.ensures.moves

pub returns-in_ok-act-in-At-clause-steps : goal.returns-in_ok-act-in-At-clause-steps
returns-in_ok-act-in-At-clause-steps g c = c.in_ok-act-in-At.ensures.moves

pub returns-in_err-turn-in-Turn-clause-steps : goal.returns-in_err-turn-in-Turn-clause-steps
returns-in_err-turn-in-Turn-clause-steps g c =
    let r : c.from_residual-in_err-turn-in-Turn.result ≡ Err c.in_err-turn-in-Turn.field-0.0 = search rules in
    step_refused c.args.program.now.db.now c.args.program.now.code.now c.args.m.now (g.A.Answers.content c.args.answers.now) (g.A.Answers.told c.args.answers.now) c.from_residual-in_err-turn-in-Turn.result c.in_err-turn-in-Turn.field-0.0 c.turn.new.m (g.A.Answers.content c.turn.new.answers) (g.A.Answers.told c.turn.new.answers) r c.in_err-turn-in-Turn.ensures.moves

pub returns-in_ok-turn-in-Turn-clause-steps : goal.returns-in_ok-turn-in-Turn-clause-steps
returns-in_ok-turn-in-Turn-clause-steps g c = c.in_ok-turn-in-Turn.ensures.moves

pub returns-in-Leaving-clause-steps : goal.returns-in-Leaving-clause-steps
returns-in-Leaving-clause-steps g c =
    step_closed c.args.program.now.db.now c.args.program.now.code.now c.in-Leaving.way c.args.m.now (g.A.Answers.content c.args.answers.now) (g.A.Answers.told c.args.answers.now) c.close.result c.close.new.m c.in-Leaving.is c.close.ensures
