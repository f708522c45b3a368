use Rattle.std.proofs.Common.{◌≡◌, drop}
use Rattle.db_cause.specs.declared.cause.Cause.TheVariants as cause
use Rattle.db_model.specs.LeastFault.{earlier}
use Rattle.db_model.specs.NumberFaults.{list_44}
use Rattle.db_check.specs.First.{first}
use Rattle.db_check.specs.Rows.{rows_of_cases}
use Rattle.db_check.proofs.rows.+rows.Given as goal

abbrev pub invariant-of_list-loop-i : goal.invariant-of_list-loop-i
invariant-of_list-loop-i l = earlier l.found (first cause.UnfollowedBits (list_44 (drop l.i l.elements))) ≡ first cause.UnfollowedBits (list_44 l.elements)

abbrev pub invariant-of_cases-loop-case : goal.invariant-of_cases-loop-case
invariant-of_cases-loop-case l = earlier l.found (first cause.UnfollowedBits (rows_of_cases (drop l.case-index l.cases))) ≡ first cause.UnfollowedBits (rows_of_cases l.cases)
