use Rattle.std.proofs.Common.{arith, subst, sym}
use Rattle.db_text.specs.Refusal.{IsRefused}
use Rattle.db_text.proofs.Passes.{fault_by, deep_by}
use Rattle.db_text.proofs.read.read_elements.Goals as goal

pub returns-in-Err : goal.returns-in-Err
returns-in-Err c = fault_by c.args.text.now (omega arith) c.in-Err.fail c.in-Err.ensures

pub returns-in-Ok-Some : goal.returns-in-Ok-Some
returns-in-Ok-Some c =
    subst (IsRefused c.args.text.now c.in-Ok-Some.line) (sym c.code-in-Ok-Some.ensures)
    (deep_by c.args.text.now (omega arith) c.in-Ok-Some.line c.in-Ok-Some.field-0 c.in-Ok-Some.ensures c.in-Ok-Some.field-0-is)
