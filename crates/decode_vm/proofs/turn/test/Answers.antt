use Rattle.std.proofs.Common.{◌≡◌, Err, Some, slice_get, ap, sym, rules, ◌∙◌}
use Rattle.pdl_code.specs.Does.{number}
use Rattle.pdl_code.specs.declared.code.Op.TheVariants.{Loop}
use Rattle.decode_vm.proofs.Entered.{is_while, test_gone}
use Rattle.decode_vm.proofs.Operations.{failed, ended_in}
use Rattle.decode_vm.proofs.Turns.{begins_while}
use Rattle.decode_vm.proofs.turn.test.Goals as goal

pub returns-in_err-v-clause-moves : goal.returns-in_err-v-clause-moves
returns-in_err-v-clause-moves g c =
    let db = c.args.program.now.db.now in
    let a = c.in-Some-Loop in
    let f : slice_get c.args.program.now.code.now.ops c.args.at ≡ Some (Loop a.field-0-0 a.value a.field-0-2) = sym a.ensures.value ∙ ap Some a.field-0-is in
    let s = is_while db c.args.program.now.code.now c.args.at c.args.body c.args.after a.field-0-2 a.field-0-0 a.value c.args.m.now (g.A.Answers.content c.args.answers.now) (g.A.Answers.told c.args.answers.now) c.requires.mode c.requires.running f in
    let r : c.from_residual.result ≡ Err c.in_err-v.field-0.0 = search rules in
    failed db c.args.program.now.code.now (number db a.value) _ c.args.m.now (g.A.Answers.content c.args.answers.now) (g.A.Answers.told c.args.answers.now) (g.A.Answers.content c.evaluate_number.new.answers) (g.A.Answers.told c.evaluate_number.new.answers)
    (begins_while db c.args.program.now.code.now c.args.at c.args.body c.args.after a.field-0-2 a.value c.args.m.now c.requires.mode s) c.from_residual.result c.in_err-v.field-0.0 c.evaluate_number.new.m r c.in_err-v.ensures.value

pub returns-in-Some-clause-moves : goal.returns-in-Some-clause-moves
returns-in-Some-clause-moves g c =
    let db = c.args.program.now.db.now in
    let a = c.in-Some-Loop in
    let f : slice_get c.args.program.now.code.now.ops c.args.at ≡ Some (Loop a.field-0-0 a.value a.field-0-2) = sym a.ensures.value ∙ ap Some a.field-0-is in
    let s = is_while db c.args.program.now.code.now c.args.at c.args.body c.args.after a.field-0-2 a.field-0-0 a.value c.args.m.now (g.A.Answers.content c.args.answers.now) (g.A.Answers.told c.args.answers.now) c.requires.mode c.requires.running f in
    test_gone db c.args.program.now.code.now c.args.m.now c.evaluate_number.new.m _ _ _ _ c.args.at c.args.body c.args.after a.field-0-2 c.in-Some.v c.in_ok-v.field-0 a.value c.go_on.result c.go_on.new.m c.requires.mode s c.in-Some.is c.in_ok-v.ensures.value c.go_on.ensures

pub returns-in-None-clause-moves : goal.returns-in-None-clause-moves
returns-in-None-clause-moves g c =
    let db = c.args.program.now.db.now in
    let a = c.in-Some-Loop in
    let f : slice_get c.args.program.now.code.now.ops c.args.at ≡ Some (Loop a.field-0-0 a.value a.field-0-2) = sym a.ensures.value ∙ ap Some a.field-0-is in
    let s = is_while db c.args.program.now.code.now c.args.at c.args.body c.args.after a.field-0-2 a.field-0-0 a.value c.args.m.now (g.A.Answers.content c.args.answers.now) (g.A.Answers.told c.args.answers.now) c.requires.mode c.requires.running f in
    ended_in db c.args.program.now.code.now (number db a.value) _ c.args.m.now _ _ _ _
    (begins_while db c.args.program.now.code.now c.args.at c.args.body c.args.after a.field-0-2 a.value c.args.m.now c.requires.mode s) c.args.at c.args.body c.args.after c.in_ok-v.field-0 c.evaluate_number.new.m c.requires.mode c.in-None.is c.in_ok-v.ensures.value
