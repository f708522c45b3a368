use Rattle.std.proofs.Common.{◌≡◌, Err, rules}
use Rattle.db_model.specs.declared.value.Value.TheVariants.{Num}
use Rattle.expr_code.specs.Meaning.{code_val}
use Rattle.decode_vm.proofs.Operations.{failed, ended_at, begins_next, next_some}
use Rattle.decode_vm.proofs.choose.next_proto.Goals as goal

pub returns-in_err-v-clause-moves : goal.returns-in_err-v-clause-moves
returns-in_err-v-clause-moves g c =
    let db = c.args.program.now.db.now in
    let r : c.from_residual.result ≡ Err c.in_err-v.field-0.0 = search rules in
    failed db c.args.program.now.code.now (code_val db c.args.value.now) _ c.args.m.now (g.A.Answers.content c.args.answers.now) (g.A.Answers.told c.args.answers.now) (g.A.Answers.content c.evaluate.new.answers) (g.A.Answers.told c.evaluate.new.answers)
    (begins_next db c.args.program.now.code.now c.args.pc c.args.value.now (Num 0) c.args.m.now c.requires.mode c.requires.stands) c.from_residual.result c.in_err-v.field-0.0 c.evaluate.new.m r c.in_err-v.ensures.value

pub returns-in-Some-clause-moves : goal.returns-in-Some-clause-moves
returns-in-Some-clause-moves g c =
    let db = c.args.program.now.db.now in
    next_some db c.args.program.now.code.now c.args.pc c.args.value.now c.in-Some.v c.protocol_of.result c.in_ok-v.field-0 c.args.m.now c.evaluate.new.m _ _ _ _ c.requires.mode c.requires.stands c.in-Some.is c.in_ok-v.ensures.value c.protocol_of.ensures

pub returns-in-None-clause-moves : goal.returns-in-None-clause-moves
returns-in-None-clause-moves g c =
    let db = c.args.program.now.db.now in
    ended_at db c.args.program.now.code.now (code_val db c.args.value.now) _ c.args.m.now _ _ _ _
    (begins_next db c.args.program.now.code.now c.args.pc c.args.value.now (Num 0) c.args.m.now c.requires.mode c.requires.stands) c.args.pc c.in_ok-v.field-0 c.evaluate.new.m c.requires.mode c.in-None.is c.in_ok-v.ensures.value
