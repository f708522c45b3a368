use Rattle.expr_code.specs.Meaning.{code_val}
use Rattle.decode_vm.proofs.Settled.{settled}
use Rattle.decode_vm.proofs.values.evaluate.Goals as goal

pub returns-clause-value : goal.returns-clause-value
returns-clause-value g c =
    let db = c.args.program.now.db.now in
    settled db (code_val db c.args.code.now) c.args.m.now (g.A.Answers.content c.args.answers.now) (g.A.Answers.told c.args.answers.now) c.eval-value.new.env (g.A.Answers.content c.eval-value.new.answers) (g.A.Answers.told c.eval-value.new.answers)
    c.eval-value.result c.settle.result c.settle.new.m c.eval-value.ensures.value c.settle.ensures
