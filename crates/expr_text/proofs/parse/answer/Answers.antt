use Rattle.std.proofs.Common.{arith}
use Rattle.expr_text.proofs.Answered.{judged_by, fault_by}
use Rattle.expr_text.proofs.parse.answer.Goals as goal

pub returns-in-Ok : goal.returns-in-Ok
returns-in-Ok c = judged_by c.args.text.now (omega arith) c.in-Ok.e c.judge.result c.in-Ok.ensures c.judge.ensures

pub returns-in-Err : goal.returns-in-Err
returns-in-Err c = fault_by c.args.text.now (omega arith) c.in-Err.fail c.in-Err.ensures
