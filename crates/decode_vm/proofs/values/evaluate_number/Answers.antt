use Rattle.pdl_code.specs.Does.{number}
use Rattle.decode_vm.proofs.Settled.{settled}
use Rattle.decode_vm.proofs.values.evaluate_number.Goals as goal

pub returns-clause-value : goal.returns-clause-value
returns-clause-value g c =
    let db = c.args.program.now.db.now in
    settled db (number db c.args.code.now) c.args.m.now (g.A.Answers.content c.args.answers.now) (g.A.Answers.told c.args.answers.now) c.eval_number-value.new.env (g.A.Answers.content c.eval_number-value.new.answers) (g.A.Answers.told c.eval_number-value.new.answers)
    c.eval_number-value.result c.settle.result c.settle.new.m c.eval_number-value.ensures.value c.settle.ensures
