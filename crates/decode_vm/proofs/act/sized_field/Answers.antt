use Rattle.std.proofs.Common.{◌≡◌, Err, Ok, subst, rules, ℕ, Option}
use Rattle.pdl_code.specs.Does.{number}
use Rattle.decode_vm.specs.Values.{Valued}
use Rattle.decode_vm.proofs.Entered.{sized_some, sound_value}
use Rattle.decode_vm.proofs.Operations.{failed, ended_at, begins_sized}
use Rattle.decode_vm.proofs.act.sized_field.Goals as goal

pub returns-in_err-n-clause-moves : goal.returns-in_err-n-clause-moves
returns-in_err-n-clause-moves g c =
    let db = c.args.program.now.db.now in
    let r : c.from_residual.result ≡ Err c.in_err-n.field-0.0 = search rules in
    failed db c.args.program.now.code.now (number db c.args.size.now) _ c.args.m.now (g.A.Answers.content c.args.answers.now) (g.A.Answers.told c.args.answers.now) (g.A.Answers.content c.evaluate_number.new.answers) (g.A.Answers.told c.evaluate_number.new.answers)
    (begins_sized db c.args.program.now.code.now c.args.pc c.args.number c.args.size.now 0 c.args.m.now c.requires.mode c.requires.stands) c.from_residual.result c.in_err-n.field-0.0 c.evaluate_number.new.m r c.in_err-n.ensures.value

pub place_field-requires-clause-sound : goal.place_field-requires-clause-sound
place_field-requires-clause-sound g c =
    let db = c.args.program.now.db.now in
    let c0 = g.A.Answers.content c.args.answers.now in
    let l0 = g.A.Answers.told c.args.answers.now in
    let c1 = g.A.Answers.content c.evaluate_number.new.answers in
    let l1 = g.A.Answers.told c.evaluate_number.new.answers in
    sound_value db c.args.program.now.code.now (number db c.args.size.now) c.in-Some.n c.args.m.now c.evaluate_number.new.m c0 l0 c1 l1 c.requires.sound
    (subst (λ (y : Option ℕ). Valued db (number db c.args.size.now) c.args.m.now c0 l0 (Ok y) c.evaluate_number.new.m c1 l1) c.in-Some.is c.in_ok-n.ensures.value)

pub returns-in-Some-clause-moves : goal.returns-in-Some-clause-moves
returns-in-Some-clause-moves g c =
    sized_some c.args.program.now.db.now c.args.program.now.code.now c.args.pc c.args.number c.args.size.now c.in-Some.n c.behind-after.result c.in_ok-n.field-0 c.args.m.now c.evaluate_number.new.m c.place_field.new.m _ _ _ _ c.place_field.result c.requires.mode c.requires.stands c.in-Some.is c.in_ok-n.ensures.value c.behind-after.ensures c.place_field.ensures

pub returns-in-None-clause-moves : goal.returns-in-None-clause-moves
returns-in-None-clause-moves g c =
    let db = c.args.program.now.db.now in
    ended_at db c.args.program.now.code.now (number db c.args.size.now) _ c.args.m.now _ _ _ _
    (begins_sized db c.args.program.now.code.now c.args.pc c.args.number c.args.size.now 0 c.args.m.now c.requires.mode c.requires.stands) c.args.pc c.in_ok-n.field-0 c.evaluate_number.new.m c.requires.mode c.in-None.is c.in_ok-n.ensures.value
