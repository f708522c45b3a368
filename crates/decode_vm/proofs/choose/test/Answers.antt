use Rattle.std.proofs.Common.{◌≡◌, Err, ap, rules, ◌∙◌}
use Rattle.pdl_code.specs.Does.{number}
use Rattle.decode_vm.specs.Machine.{place_behind}
use Rattle.decode_vm.proofs.Operations.{failed, ended_at, begins_test, test_some}
use Rattle.decode_vm.proofs.choose.test.Goals as goal

pub returns-in_err-v-clause-moves : goal.returns-in_err-v-clause-moves
returns-in_err-v-clause-moves g c =
    let db = c.args.program.now.db.now in
    let r : c.from_residual.result ≡ Err c.in_err-v.field-0.0 = search rules in
    failed db c.args.program.now.code.now (number db c.args.value.now) _ c.args.m.now (g.A.Answers.content c.args.answers.now) (g.A.Answers.told c.args.answers.now) (g.A.Answers.content c.evaluate_number.new.answers) (g.A.Answers.told c.evaluate_number.new.answers)
    (begins_test db c.args.program.now.code.now c.args.pc c.args.value.now c.args.to 0 c.args.m.now c.requires.mode c.requires.stands) c.from_residual.result c.in_err-v.field-0.0 c.evaluate_number.new.m r c.in_err-v.ensures.value

pub returns-in-Some-clause-moves : goal.returns-in-Some-clause-moves
returns-in-Some-clause-moves g c =
    let db = c.args.program.now.db.now in
    test_some db c.args.program.now.code.now c.args.pc c.args.value.now c.args.to c.in-Some.v c.behind.result c.in_ok-v.field-0 c.args.m.now c.evaluate_number.new.m _ _ _ _ c.requires.mode c.requires.stands c.in-Some.is c.in_ok-v.ensures.value
    (c.behind.ensures ∙ ap (place_behind c.args.program.now.code.now c.args.pc) c.skipped.ensures)

pub returns-in-None-clause-moves : goal.returns-in-None-clause-moves
returns-in-None-clause-moves g c =
    let db = c.args.program.now.db.now in
    ended_at db c.args.program.now.code.now (number db c.args.value.now) _ c.args.m.now _ _ _ _
    (begins_test db c.args.program.now.code.now c.args.pc c.args.value.now c.args.to 0 c.args.m.now c.requires.mode c.requires.stands) c.args.pc c.in_ok-v.field-0 c.evaluate_number.new.m c.requires.mode c.in-None.is c.in_ok-v.ensures.value
