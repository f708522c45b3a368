use Rattle.std.proofs.Common.{◌≡◌, Err, rules, subst, sym}
use Rattle.db_model.specs.declared.env.Env.{Env}
use Rattle.db_model.specs.declared.value.Value.TheVariants.{Num}
use Rattle.pdl_code.specs.Does.{set_variable}
use Rattle.expr_code.specs.Meaning.{code_val}
use Rattle.pdl_code.specs.declared.code.Op.TheVariants.{Assign}
use Rattle.decode_vm.specs.declared.machine.Mode.TheVariants as mode
use Rattle.decode_vm.specs.Machine.{place_behind, Ran}
use Rattle.decode_vm.proofs.Operations.{failed, ended_at, begins_assign, part_some, ran_set}
use Rattle.decode_vm.proofs.set.assign.Goals as goal

pub returns-in_err-v-clause-moves : goal.returns-in_err-v-clause-moves
returns-in_err-v-clause-moves g c =
    let db = c.args.program.now.db.now in
    let r : c.from_residual.result ≡ Err c.in_err-v.field-0.0 = search rules in
    failed db c.args.program.now.code.now (code_val db c.args.value.now) _ c.args.m.now (g.A.Answers.content c.args.answers.now) (g.A.Answers.told c.args.answers.now) (g.A.Answers.content c.evaluate.new.answers) (g.A.Answers.told c.evaluate.new.answers)
    (begins_assign db c.args.program.now.code.now c.args.pc c.args.variable c.args.value.now (Num 0) c.args.m.now c.requires.mode c.requires.stands) c.from_residual.result c.in_err-v.field-0.0 c.evaluate.new.m r c.in_err-v.ensures.value

pub returns-in-Some-clause-moves : goal.returns-in-Some-clause-moves
returns-in-Some-clause-moves g c =
    let db = c.args.program.now.db.now in
    let o = c.evaluate.new.m in
    let v = c.in-Some.v in
    part_some db c.args.program.now.code.now (code_val db c.args.value.now) (set_variable c.args.variable) (Assign c.args.variable c.args.value.now) c.args.pc v c.in_ok-v.field-0 c.args.m.now o _ _ _ _ _ c.requires.mode c.requires.stands
    (begins_assign db c.args.program.now.code.now c.args.pc c.args.variable c.args.value.now v c.args.m.now c.requires.mode c.requires.stands) c.in-Some.is c.in_ok-v.ensures.value
    (subst (λ (e : Env). Ran (set_variable c.args.variable v) (place_behind c.args.program.now.code.now c.args.pc 0) o (record o { mode = mode.At c.behind.result; frame = record o.frame { env = e } })) (sym c.set_variable.ensures)
    (ran_set db c.args.program.now.code.now c.args.variable v (place_behind c.args.program.now.code.now c.args.pc 0) c.behind.result o c.behind.ensures))

pub returns-in-None-clause-moves : goal.returns-in-None-clause-moves
returns-in-None-clause-moves g c =
    let db = c.args.program.now.db.now in
    ended_at db c.args.program.now.code.now (code_val db c.args.value.now) _ c.args.m.now _ _ _ _
    (begins_assign db c.args.program.now.code.now c.args.pc c.args.variable c.args.value.now (Num 0) c.args.m.now c.requires.mode c.requires.stands) c.args.pc c.in_ok-v.field-0 c.evaluate.new.m c.requires.mode c.in-None.is c.in_ok-v.ensures.value
