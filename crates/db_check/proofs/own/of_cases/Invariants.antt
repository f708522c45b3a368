use Rattle.std.proofs.Common.{◌≡◌, drop}
use Rattle.db_model.specs.LeastFault.{earlier}
use Rattle.db_model.specs.Lines.{over}
use Rattle.db_check.specs.First.{first}
use Rattle.db_check.specs.Own.{cause_of, case_lines}
use Rattle.db_check.proofs.own.of_cases.Given as goal

abbrev pub invariant-loop-case : goal.invariant-loop-case
invariant-loop-case l = earlier l.found (first (cause_of l.kind) (over (case_lines l.kind) (drop l.case-index l.cases))) ≡ first (cause_of l.kind) (over (case_lines l.kind) l.cases)
