use Rattle.std.proofs.Common.{◌≡◌, Err, rules}
use Rattle.pdl_code.specs.Does.{number}
use Rattle.decode_vm.proofs.Entered.{count_begun}
use Rattle.decode_vm.proofs.Operations.{failed, ended_at}
use Rattle.decode_vm.proofs.Turns.{begins_count}
use Rattle.decode_vm.proofs.enter.begin_count.Goals as goal

pub returns-in_err-left-clause-moves : goal.returns-in_err-left-clause-moves
returns-in_err-left-clause-moves g c =
    let db = c.args.program.now.db.now in
    let r : c.from_residual.result ≡ Err c.in_err-left.field-0.0 = search rules in
    failed db c.args.program.now.code.now (number db c.args.value.now) _ c.args.m.now (g.A.Answers.content c.args.answers.now) (g.A.Answers.told c.args.answers.now) (g.A.Answers.content c.evaluate_number.new.answers) (g.A.Answers.told c.evaluate_number.new.answers)
    (begins_count db c.args.program.now.code.now c.args.pc c.args.to c.args.value.now 0 c.args.m.now c.requires.mode c.requires.stands) c.from_residual.result c.in_err-left.field-0.0 c.evaluate_number.new.m r c.in_err-left.ensures.value

pub returns-in-Some-clause-moves : goal.returns-in-Some-clause-moves
returns-in-Some-clause-moves g c =
    count_begun c.args.program.now.db.now c.args.program.now.code.now c.args.m.now c.evaluate_number.new.m _ _ _ _ c.args.pc c.args.to c.behind-body.result c.behind-after.result c.in-Some.left c.in_ok-left.field-0 c.args.value.now c.requires.mode
    c.requires.stands c.behind-body.ensures c.behind-after.ensures c.in-Some.is c.in_ok-left.ensures.value

pub returns-in-None-clause-moves : goal.returns-in-None-clause-moves
returns-in-None-clause-moves g c =
    let db = c.args.program.now.db.now in
    ended_at db c.args.program.now.code.now (number db c.args.value.now) _ c.args.m.now _ _ _ _
    (begins_count db c.args.program.now.code.now c.args.pc c.args.to c.args.value.now 0 c.args.m.now c.requires.mode c.requires.stands) c.args.pc c.in_ok-left.field-0 c.evaluate_number.new.m c.requires.mode c.in-None.is c.in_ok-left.ensures.value
